-- The byte was added as often as isn't left to be.
use Rattle.std.proofs.Common.{◌≡◌, ◌≤◌, ◌-◌, ◌++◌, replicate}
use Rattle.text_parses.proofs.repeated.push_repeated.Given as goal

abbrev pub invariant-bytes : goal.invariant-bytes
invariant-bytes l = (l.left ≤ l.count) × (l.text.items ≡ l.initial.text.items ++ replicate (l.count - l.left) l.byte)

abbrev pub decreases-bytes : goal.decreases-bytes
decreases-bytes l = l.left
