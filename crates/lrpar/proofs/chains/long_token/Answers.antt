use Rattle.std.proofs.Common.{◌≡◌, ◌≤◌, ℕ, length, ◌∙◌, subst, arith}
use Rattle.std.proofs.lemmas.List.{length-map}
use Rattle.lr_theory.specs.Automaton.{Action, error}
use Rattle.state_table.specs.declared.cells.Action.{Action as TableAction}
use Rattle.state_table.specs.CellViews.{action_of, cells_of, state_of}
use Rattle.state_table.specs.Graphs.{GraphValue}
use Rattle.state_table.specs.TableValues.{action_at}
use Rattle.state_table.specs.Tables.{automaton_of}
use Rattle.lrpar.specs.Reducing.{IsLong, BeginsNone, chain_top}
use Rattle.lrpar.proofs.ChainRows.{begins_none, error_begins_none}
use Rattle.lrpar.proofs.RowWalks.{row_none, row_more, cell_inside, cell_there, before_cell, all_cells}
use Rattle.lrpar.proofs.chains.long_token.Goals as goal
use Rattle.lrpar.proofs.chains.long_token.Goals.{After-action-1}

pub cells-init : goal.cells-init
cells-init g c = record { endings = c.requires.endings; before = λ x. row_none _ _ }

-- the cell that was read
there : (g : _) (c : After-action-1 g) → action_at c.args.chains.now.stable.now (chain_top (g.S.IndexStorage.number c.args.state.0) (state_of g.S.IndexStorage.number c.args.above)) c.cell_of_row-number.result.0 ≡ action_of g.S.IndexStorage.number c.cell_of_row-number.result.1
there g c =
    let number = g.S.IndexStorage.number in
    let row = cells_of number c.state_cells-row.result.now in
    let v = c.args.chains.now.stable.now in
    subst (λ s. action_at v s c.cell_of_row-number.result.0 ≡ action_of number c.cell_of_row-number.result.1) c.top_of.ensures
    (cell_there v (number c.top_of.result.0) row c.state_cells-row.ensures.whole c.state_cells-row.ensures.cells c.cells.index c.cell_of_row-number.result.0 (action_of number c.cell_of_row-number.result.1) c.cell_of_row-number.ensures)

pub may_begin-requires : goal.may_begin-requires
may_begin-requires g c = λ p e.
    let within = c.args.chains.now.table.is_table.reduces _ _ p (there g (goal.at.may_begin-requires g c).After-action-1 ∙ e) in
    omega (arith, within, c.args.chains.now.table.productions)

pub index_below-requires : goal.index_below-requires
index_below-requires g c =
    let number = g.S.IndexStorage.number in
    let lt = cell_inside c.args.chains.now.stable.now (number c.top_of.result.0) (cells_of number c.state_cells-row.result.now) c.state_cells-row.ensures.whole c.state_cells-row.ensures.cells c.cells.index c.cell_of_row-number.result.0 (action_of number c.cell_of_row-number.result.1) c.cell_of_row-number.ensures in
    omega (arith, lt, c.tokens_len.ensures)

pub cells-preserved-then-not-may_begin : goal.cells-preserved-then-not-may_begin
cells-preserved-then-not-may_begin g c =
    let number = g.S.IndexStorage.number in
    let a = action_of number c.cell_of_row-number.result.1 in
    let none : BeginsNone c.args.chains.now.grm.now.grammar _ a = rw c.depth_of-depth.ensures at (c.may_begin.ensures c.if-not-may_begin.true) in
    record {
      endings = c.cells.invariant.endings;
      before = λ x. row_more (cells_of number c.state_cells-row.result.now) _ c.cells.index c.cell_of_row-number.result.0 a (c.cells.invariant.before x) c.cell_of_row-number.ensures
          (begins_none c.args.chains.now.grm.now.grammar x c.args.chains.now.stable.now c.args.chains.now.limit (number c.args.state.0) c.cell_of_row-number.result.0 (state_of number c.args.above) a (there g (goal.at.cells-preserved-then-not-may_begin g c).After-action-1) none);
    }

pub cells-preserved : goal.cells-preserved
cells-preserved g c =
    let number = g.S.IndexStorage.number in
    let a = action_of number c.cell_of_row-number.result.1 in
    let here = λ (x : GraphValue). subst (λ u. IsLong c.args.chains.now.grm.now.grammar (automaton_of x c.args.chains.now.stable.now) c.args.chains.now.limit (number c.args.state.0) (state_of number c.args.above) u → ⊥) c.index_below.ensures (rw c.if-branch.false at (c.in_ok-passes.ensures.long x)) in
    record { endings = c.in_ok-passes.ensures.endings; before = λ x. row_more (cells_of number c.state_cells-row.result.now) _ c.cells.index c.cell_of_row-number.result.0 a (c.cells.invariant.before x) c.cell_of_row-number.ensures (here x) }

-- an error cell begins no chain
errors : (g : _) (c : After-action-1 g) (x : GraphValue) (t : ℕ) → action_at c.args.chains.now.stable.now (g.S.IndexStorage.number c.top_of.result.0) t ≡ error → IsLong c.args.chains.now.grm.now.grammar (automaton_of x c.args.chains.now.stable.now) c.args.chains.now.limit (g.S.IndexStorage.number c.args.state.0) (state_of g.S.IndexStorage.number c.args.above) t → ⊥
errors g c x t e =
    let number = g.S.IndexStorage.number in
    error_begins_none c.args.chains.now.grm.now.grammar x c.args.chains.now.stable.now c.args.chains.now.limit (number c.args.state.0) t (state_of number c.args.above) (subst (λ s. action_at c.args.chains.now.stable.now s t ≡ error) c.top_of.ensures e)

pub returns-then-branch-clause-found : goal.returns-then-branch-clause-found
returns-then-branch-clause-found g c = λ x.
    let number = g.S.IndexStorage.number in
    let a = action_of number c.cell_of_row-number.result.1 in
    let before = before_cell c.args.chains.now.stable.now (number c.top_of.result.0) (cells_of number c.state_cells-row.result.now) c.state_cells-row.ensures.whole c.state_cells-row.ensures.cells _ (errors g (goal.at.returns-then-branch-clause-found g c).After-action-1 x) c.cells.index c.cell_of_row-number.result.0 a (c.cells.invariant.before x) c.cell_of_row-number.ensures in
    let inside = cell_inside c.args.chains.now.stable.now (number c.top_of.result.0) (cells_of number c.state_cells-row.result.now) c.state_cells-row.ensures.whole c.state_cells-row.ensures.cells c.cells.index c.cell_of_row-number.result.0 a c.cell_of_row-number.ensures in
    (omega (arith, inside, c.index_below.ensures), rw c.if-branch.true at (c.in_ok-passes.ensures.long x), λ t lt. before t (omega (arith, lt, c.index_below.ensures)))

pub returns-clause-found : goal.returns-clause-found
returns-clause-found g c = λ x t lt.
    let number = g.S.IndexStorage.number in
    let f : ℕ × TableAction g.row.S.Denot → ℕ × Action = λ e. (e.0, action_of number e.1) in
    let n = length-map c.state_cells-row.result.now f in
    let all : length (cells_of number c.state_cells-row.result.now) ≤ c.cells.index = omega (arith, n) in
    all_cells c.args.chains.now.stable.now (number c.top_of.result.0) (cells_of number c.state_cells-row.result.now) c.state_cells-row.ensures.whole c.state_cells-row.ensures.cells _
    (λ u e. error_begins_none c.args.chains.now.grm.now.grammar x c.args.chains.now.stable.now c.args.chains.now.limit (number c.args.state.0) u (state_of number c.args.above) (subst (λ s. action_at c.args.chains.now.stable.now s u ≡ error) c.top_of.ensures e))
    c.cells.index (c.cells.invariant.before x) all t
