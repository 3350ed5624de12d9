use Rattle.std.proofs.Common.{◌≡◌, ℕ, ◌<◌, [], length, get_or, map}
use Rattle.std.specs.declared.alloc.Global.{Global}
use Rattle.std.specs.declared.vec.Vec.{Vec}
use Rattle.lrtable.specs.Fronts.{front_of}
use Rattle.lrtable.specs.Reachers.{HasReach}
use Rattle.lrtable.specs.Reaching.{MayBeReachedBy}
use Rattle.lrtable.specs.declared.openers.Opener.{Opener}
use Rattle.lrtable.proofs.left_corners.lists_by.Given as goal

abbrev pub invariant-rules : goal.invariant-rules
invariant-rules l = record {
  count : length l.reached.items ≡ l.rule;
  each : (A : ℕ) → A < l.rule → MayBeReachedBy l.fn.openers l.initial.reacher.opening.tokens A (get_or (map (λ (v : Vec Opener Global). map front_of v.items) l.reached.items) A []);
  reacher : HasReach (length l.fn.openers) l.initial.reacher.opening.tokens l.reacher;
}
