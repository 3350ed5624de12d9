use Rattle.std.proofs.Common.{◌≡◌, ◌+◌, ◌-◌, ℕ, [], length, map, get_or}
use Rattle.std.specs.declared.alloc.Global.{Global}
use Rattle.std.specs.declared.vec.Vec.{Vec}
use Rattle.lrtable.specs.declared.state_lists.Numbers.{Numbers}
use Rattle.lrtable.proofs.state_lists.make_room.Given as goal

abbrev pub invariant-lists : goal.invariant-lists
invariant-lists l = (k : ℕ) → get_or (map (λ (v : Vec Numbers Global). v.items) l.lists.items) k [] ≡ get_or (map (λ (v : Vec Numbers Global). v.items) l.initial.lists.items) k []

abbrev pub decreases-lists : goal.decreases-lists
decreases-lists l = l.index + 1 - length l.lists.items
