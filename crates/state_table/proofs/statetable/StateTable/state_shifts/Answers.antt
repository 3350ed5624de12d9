use Rattle.std.proofs.Common.{true, ◌∙◌}
use Rattle.state_table.specs.CellViews.{action_of, cells_of}
use Rattle.state_table.proofs.KeptNumbers.{tokens_kept, below_under}
use Rattle.state_table.proofs.statetable.StateTable.state_shifts.Goals as goal

pub tokens_of_row-requires : goal.tokens_of_row-requires
tokens_of_row-requires g c = below_under (action_of g.S.IndexStorage.number) c.row.result.now c.args.self.now.tokens g.S.IndexStorage.MAX c.row.ensures.cells.below c.row.ensures.tokens

pub returns : goal.returns
returns g c =
    let number = g.S.IndexStorage.number in
    c.tokens_of_row.ensures ∙ tokens_kept true c.args.self.now (number c.args.stidx.0) (cells_of number c.row.result.now) c.row.ensures.whole c.row.ensures.cells
