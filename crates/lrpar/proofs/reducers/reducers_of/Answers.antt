use Rattle.std.proofs.Common.{◌≡◌, ◌≤◌, ℕ, length, sym, ◌∙◌, arith}
use Rattle.std.proofs.lemmas.List.{length-map}
use Rattle.lr_theory.specs.Automaton.{Action, reduce}
use Rattle.state_table.specs.declared.cells.Action.{Action as TableAction}
use Rattle.state_table.specs.CellViews.{action_of, cells_of}
use Rattle.state_table.specs.TableValues.{action_at}
use Rattle.lrpar.specs.Branching.{Lists}
use Rattle.lrpar.proofs.RowWalks.{row_none, row_more, cell_there, all_cells}
use Rattle.lrpar.proofs.StacksAhead.{lists_none}
use Rattle.lrpar.proofs.reducers.reducers_of.Goals as goal

pub cells-init : goal.cells-init
cells-init g c = record {
  within = λ p h. absurd (lists_none g.S.IndexStorage.number p (rw c.new-list.ensures.items at h));
  below = row_none _ _;
}

pub cells-preserved : goal.cells-preserved
cells-preserved g c =
    let number = g.S.IndexStorage.number in
    let v = c.args.chains.now.stable.now in
    let s = number c.args.state.0 in
    let row = cells_of number c.state_cells-row.result.now in
    let t = c.cell_of_row-action.result.0 in
    let a = action_of number c.cell_of_row-action.result.1 in
    let there : action_at v s t ≡ a = cell_there v s row c.state_cells-row.ensures.whole c.state_cells-row.ensures.cells c.cells.index t a c.cell_of_row-action.ensures in
    let put = c.in_ok-put_reducer.ensures in
    record {
      within = put.within (length c.args.chains.now.grm.now.grammar.productions) c.cells.invariant.within (λ p e. (let w = c.args.chains.now.table.is_table.reduces _ _ p (there ∙ e) in omega (arith, w, c.args.chains.now.table.productions)));
      below = row_more row _ c.cells.index t a (λ k n b lt at p e. put.kept p (c.cells.invariant.below k n b lt at p e)) c.cell_of_row-action.ensures (λ p e. put.put p (sym there ∙ e));
    }

pub returns : goal.returns
returns g c =
    let number = g.S.IndexStorage.number in
    let f : ℕ × TableAction g.row.S.Denot → ℕ × Action = λ e. (e.0, action_of number e.1) in
    let n = length-map c.state_cells-row.result.now f in
    let row = cells_of number c.state_cells-row.result.now in
    let all : length row ≤ c.cells.index = omega (arith, n) in
    let v = c.args.chains.now.stable.now in
    let s = number c.args.state.0 in
    let Stands : ℕ → Type 0 = λ t. (p : ℕ) → action_at v s t ≡ reduce p → Lists number c.cells.list.items p in
    record {
      within = c.cells.invariant.within;
      all = all_cells v s row c.state_cells-row.ensures.whole c.state_cells-row.ensures.cells Stands (λ t e p h. cc (sym e ∙ h)) c.cells.index c.cells.invariant.below all;
    }
