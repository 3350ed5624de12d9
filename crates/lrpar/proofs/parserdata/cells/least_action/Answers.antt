use Rattle.std.proofs.Common.{◌≤◌, ℕ, length, refl, sym, subst, arith}
use Rattle.state_table.specs.Graphs.{target_in}
use Rattle.std.proofs.lemmas.List.{length-map}
use Rattle.cfg_theory.specs.Grammar.{token}
use Rattle.lr_theory.specs.Automaton.{Action}
use Rattle.state_table.specs.declared.cells.Action.{Action as TableAction}
use Rattle.state_table.specs.CellViews.{action_of, cells_of}
use Rattle.state_table.specs.GraphViews.{edges_seen}
use Rattle.lrpar.specs.Fitting.{Passed}
use Rattle.lrpar.proofs.FittingRows.{actions_none, actions_more, actions_least, actions_all}
use Rattle.lrpar.proofs.RowWalks.{cell_inside}
use Rattle.lrpar.proofs.parserdata.cells.least_action.Goals as goal

pub cells-init : goal.cells-init
cells-init g c =
    let number = g.S.IndexStorage.number in
    record { actions = actions_none c.args.state.now.grm.now.grammar c.args.state.now.items.now (edges_seen number c.args.edges.now) c.args.state.now.stable.now (number c.args.state.now.stidx.0) (cells_of number c.state_cells-row.result.now) c.state_cells-row.ensures.whole c.state_cells-row.ensures.cells; seen = tt }

pub index_below-requires : goal.index_below-requires
index_below-requires g c =
    let number = g.S.IndexStorage.number in
    let lt = cell_inside c.args.state.now.stable.now (number c.args.state.now.stidx.0) (cells_of number c.state_cells-row.result.now) c.state_cells-row.ensures.whole c.state_cells-row.ensures.cells c.cells.index c.cell_of_row-number.result.0 (action_of number c.cell_of_row-number.result.1) c.cell_of_row-number.ensures in
    omega (arith, lt, c.tokens_len.ensures)

pub first_not_before-at-requires : goal.first_not_before-at-requires
first_not_before-at-requires g c =
    let number = g.S.IndexStorage.number in
    subst (λ n. Passed (edges_seen number c.args.edges.now) c.cells.at (token n)) (sym c.index_below.ensures) (c.cells.invariant.actions.passed c.cells.index c.cell_of_row-number.result.0 (action_of number c.cell_of_row-number.result.1) (omega arith) c.cell_of_row-number.ensures)

pub cells-preserved-then-is_seen : goal.cells-preserved-then-is_seen
cells-preserved-then-is_seen g c =
    let number = g.S.IndexStorage.number in
    let es = edges_seen number c.args.edges.now in
    let t = c.cell_of_row-number.result.0 in
    let fits = c.is_seen.ensures c.if-is_seen.true c.args.state.now.grm.now.grammar c.args.state.now.items.now (target_in es (token t)) t c.cells.invariant.seen in
    record {
      actions = actions_more c.args.state.now.grm.now.grammar c.args.state.now.items.now es c.args.state.now.stable.now (number c.args.state.now.stidx.0) (cells_of number c.state_cells-row.result.now) c.state_cells-row.ensures.whole c.state_cells-row.ensures.cells
          c.cells.at c.cells.at c.cells.index t t (action_of number c.cell_of_row-number.result.1) _
          c.cells.invariant.actions c.cell_of_row-number.ensures refl (c.cells.invariant.actions.passed c.cells.index t (action_of number c.cell_of_row-number.result.1) (omega arith) c.cell_of_row-number.ensures) refl fits;
      seen = c.cells.invariant.seen;
    }

pub cells-preserved : goal.cells-preserved
cells-preserved g c =
    let number = g.S.IndexStorage.number in
    let fits = rw c.if-not-action_fits.false at c.action_fits.ensures in
    record {
      actions = actions_more c.args.state.now.grm.now.grammar c.args.state.now.items.now (edges_seen number c.args.edges.now) c.args.state.now.stable.now (number c.args.state.now.stidx.0) (cells_of number c.state_cells-row.result.now) c.state_cells-row.ensures.whole c.state_cells-row.ensures.cells
          c.cells.at c.first_not_before-at.result c.cells.index c.cell_of_row-number.result.0 (number c.index_below.result) (action_of number c.cell_of_row-number.result.1) _
          c.cells.invariant.actions c.cell_of_row-number.ensures c.index_below.ensures c.first_not_before-at.ensures.passed c.target_at-edge.ensures fits;
      seen = c.seen_after-seen.ensures c.args.state.now.grm.now.grammar c.args.state.now.items.now _ _ c.cells.invariant.seen fits;
    }

pub returns-then-not-action_fits : goal.returns-then-not-action_fits
returns-then-not-action_fits g c =
    let number = g.S.IndexStorage.number in
    actions_least c.args.state.now.grm.now.grammar c.args.state.now.items.now (edges_seen number c.args.edges.now) c.args.state.now.stable.now (number c.args.state.now.stidx.0) (cells_of number c.state_cells-row.result.now) c.state_cells-row.ensures.whole c.state_cells-row.ensures.cells
    c.cells.at c.cells.index c.cell_of_row-number.result.0 (number c.index_below.result) (action_of number c.cell_of_row-number.result.1) _
    c.cells.invariant.actions c.cell_of_row-number.ensures c.index_below.ensures c.target_at-edge.ensures (rw c.if-not-action_fits.true at c.action_fits.ensures)

pub returns : goal.returns
returns g c =
    let number = g.S.IndexStorage.number in
    let f : ℕ × TableAction g.row.S.Denot → ℕ × Action = λ e. (e.0, action_of number e.1) in
    let n = length-map c.state_cells-row.result.now f in
    let all : length (cells_of number c.state_cells-row.result.now) ≤ c.cells.index = omega (arith, n) in
    actions_all c.args.state.now.grm.now.grammar c.args.state.now.items.now (edges_seen number c.args.edges.now) c.args.state.now.stable.now (number c.args.state.now.stidx.0) (cells_of number c.state_cells-row.result.now) c.state_cells-row.ensures.whole c.state_cells-row.ensures.cells
    c.cells.at c.cells.index c.cells.invariant.actions all
