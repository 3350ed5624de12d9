-- So many spaces are added as aren't left to be.
use Rattle.std.proofs.Common.{◌≡◌, ◌≤◌, ◌-◌, ◌++◌, replicate}
use Rattle.word_lines.proofs.trees.push_spaces.Given as goal

abbrev pub invariant-spaces : goal.invariant-spaces
invariant-spaces l = (l.left ≤ l.count) × (l.text.items ≡ l.initial.text.items ++ replicate (l.count - l.left) 32)

abbrev pub decreases-spaces : goal.decreases-spaces
decreases-spaces l = l.left
