use Rattle.std.proofs.Common.{◌≡◌, ◌<◌, ℕ, map, get_or}
use Rattle.lrtable.specs.States.{state_at}
use Rattle.lrtable.specs.StateViews.{value_of}
use Rattle.lrtable.proofs.revisiting.is_first.Given as goal

abbrev pub invariant-each : goal.invariant-each
invariant-each g l =
    let states = map (value_of g.S.IndexStorage.number) l.states in
    (k : ℕ) → k < l.i → (state_at states (get_or l.bucket k 0)).core.items ≡ (state_at states l.number).core.items → ⊥
