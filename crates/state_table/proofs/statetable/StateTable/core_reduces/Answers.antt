use Rattle.std.proofs.Common.{ℕ, ap, ◌∙◌}
use Rattle.state_table.specs.CellViews.{cells_of}
use Rattle.state_table.specs.TableValues.{reduced_from}
use Rattle.state_table.proofs.LeastReduced.{productions_alike}
use Rattle.state_table.proofs.statetable.StateTable.core_reduces.Goals as goal

pub returns : goal.returns
returns g c =
    let number = g.S.IndexStorage.number in
    let row = cells_of number c.row.result.now in
    c.productions_of_row.ensures ∙ (ap (λ (n : ℕ). reduced_from row 0 n) (c.to_usize.ensures.value ∙ c.prods_len.ensures) ∙ productions_alike c.args.self.now (number c.args.stidx.0) row c.row.ensures.whole c.row.ensures.cells)
