use Rattle.std.proofs.Common.{◌≡◌, ℕ, Some, length}
use Rattle.std.specs.Prelude.{slice_get}
use Rattle.lrpar.specs.Reducing.{ShortAt}
use Rattle.lrpar.specs.declared.unit_chains.Short.{Short}
use Rattle.lrpar.proofs.unit_chains.all_shorts.Given as goal

abbrev pub invariant-states : goal.invariant-states
invariant-states g l = record {
  count : length l.shorts.items ≡ l.number;
  each : (k : ℕ) (x : Short g.row.S.Denot) → slice_get l.shorts.items k ≡ Some x → ShortAt g.S.IndexStorage.number l.chains.grm.now.grammar l.chains.stable.now k x;
}
