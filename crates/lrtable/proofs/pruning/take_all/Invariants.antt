use Rattle.std.proofs.Common.{◌≡◌, ℕ, ◌<◌, ◌≤◌, length, get_or, map, take}
use Rattle.lrtable.specs.Pruning.{renumbered_state}
use Rattle.lrtable.specs.States.{state_at}
use Rattle.lrtable.specs.StateViews.{value_of}
use Rattle.lrtable.proofs.pruning.take_all.Given as goal

abbrev pub invariant-kept : goal.invariant-kept
invariant-kept g l =
    let value = value_of g.S.IndexStorage.number in
    record {
      count : length l.states.items ≡ length l.initial.states.items;
      left : (j : ℕ) → l.i ≤ j → j < length l.kept → state_at (map value l.states.items) (get_or l.kept j 0) ≡ state_at (map value l.initial.states.items) (get_or l.kept j 0);
      taken : map value l.new.items ≡ map (λ k. renumbered_state l.numbers (state_at (map value l.initial.states.items) k)) (take l.i l.kept);
    }
