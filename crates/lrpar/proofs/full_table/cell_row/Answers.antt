use Rattle.std.proofs.Common.{subst, sym, ◌∙◌}
use Rattle.state_table.specs.CellViews.{action_of}
use Rattle.state_table.specs.Rows.{Below}
use Rattle.state_table.specs.declared.cells.Action.TheVariants as actions
use Rattle.state_table.proofs.FullRows.{rises_under}
use Rattle.lrpar.specs.FullTables.{IsFull}
use Rattle.lrpar.proofs.FullSteps.{below_under, are_cells}
use Rattle.lrpar.proofs.full_table.cell_row.Goals as goal

pub full_row-requires-clause-rises : goal.full_row-requires-clause-rises
full_row-requires-clause-rises g c = rises_under (action_of g.S.IndexStorage.number) c.state_cells-cells.result.now c.state_cells-cells.ensures.cells.rises

pub full_row-requires-clause-below : goal.full_row-requires-clause-below
full_row-requires-clause-below g c =
    subst (λ k. Below k c.state_cells-cells.result.now) (sym (c.to_usize-count.ensures.value ∙ c.tokens_len.ensures)) (below_under (action_of g.S.IndexStorage.number) c.state_cells-cells.result.now c.args.stable.now.tokens c.state_cells-cells.ensures.cells.below)

pub returns : goal.returns
returns g c =
    let number = g.S.IndexStorage.number in
    let row = c.state_cells-cells.result.now in
    are_cells number c.args.stable.now (number c.args.stidx.0) row c.in_ok-row.row.items c.state_cells-cells.ensures.whole c.state_cells-cells.ensures.cells
    (subst (λ k. IsFull k row actions.Error c.in_ok-row.row.items) (c.to_usize-count.ensures.value ∙ c.tokens_len.ensures) c.in_ok-row.ensures)
