use Rattle.std.proofs.Common.{◌≡◌, ℕ, ◌<◌, false}
use Rattle.lrtable.specs.States.{state_at}
use Rattle.lrtable.specs.Builders.{states_in}
use Rattle.lrtable.proofs.pager.lowest.Given as goal

abbrev pub invariant-each : goal.invariant-each
invariant-each g l = (r : ℕ) → r < l.number → (state_at (states_in g.S.IndexStorage.number l.builder) r).todo ≡ false
