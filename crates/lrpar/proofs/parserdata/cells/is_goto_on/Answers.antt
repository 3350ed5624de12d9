use Rattle.std.proofs.Common.{◌≡◌, ap, ◌∙◌, sym, arith}
use Rattle.std.proofs.lemmas.Bool.{eqb-true}
use Rattle.state_table.specs.CellViews.{targets_of}
use Rattle.state_table.specs.TableValues.{goto_at}
use Rattle.lrpar.proofs.RowWalks.{goto_there}
use Rattle.lrpar.proofs.parserdata.cells.is_goto_on.Goals as goal

pub returns : goal.returns
returns g c = λ yes.
    let number = g.S.IndexStorage.number in
    let n = c.goto_of_row-number.result.0 in
    let q = number c.goto_of_row-number.result.1.0 in
    let there = goto_there c.args.state.now.stable.now (number c.args.state.now.stidx.0) (targets_of number c.state_gotos-row.result.now) c.state_gotos-row.ensures.whole c.state_gotos-row.ensures.targets c.args.index n q c.goto_of_row-number.ensures in
    let same = eqb-true n c.to_usize.result yes in
    let e : n ≡ number c.args.ridx.0 = omega (arith, same, c.to_usize.ensures.value) in
    (q, ap (goto_at c.args.state.now.stable.now (number c.args.state.now.stidx.0)) (sym e) ∙ there)
