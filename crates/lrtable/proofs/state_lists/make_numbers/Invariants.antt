use Rattle.std.proofs.Common.{◌≡◌, ◌+◌, ◌-◌, ℕ, [], length, map, get_or}
use Rattle.lrtable.specs.StateViews.{numbers_of}
use Rattle.lrtable.proofs.state_lists.make_numbers.Given as goal

abbrev pub invariant-lists : goal.invariant-lists
invariant-lists l = (k : ℕ) → get_or (map numbers_of l.lists.items) k [] ≡ get_or (map numbers_of l.initial.lists.items) k []

abbrev pub decreases-lists : goal.decreases-lists
decreases-lists l = l.index + 1 - length l.lists.items
