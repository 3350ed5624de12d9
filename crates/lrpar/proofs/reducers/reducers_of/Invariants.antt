use Rattle.std.proofs.Common.{◌≡◌, ◌<◌, ℕ, length}
use Rattle.lr_theory.specs.Automaton.{reduce}
use Rattle.state_table.specs.CellViews.{cells_of}
use Rattle.state_table.specs.TableValues.{action_at}
use Rattle.lrpar.specs.Branching.{Lists}
use Rattle.lrpar.proofs.RowWalks.{RowTo}
use Rattle.lrpar.proofs.reducers.reducers_of.Given as goal

abbrev pub invariant-cells : goal.invariant-cells
invariant-cells g l = record {
  within : (p : ℕ) → Lists g.S.IndexStorage.number l.list.items p → p < length l.chains.grm.now.grammar.productions;
  below : RowTo (cells_of g.S.IndexStorage.number l.row) (λ t. (p : ℕ) → action_at l.chains.stable.now (g.S.IndexStorage.number l.fn.state.0) t ≡ reduce p → Lists g.S.IndexStorage.number l.list.items p) l.index;
}
