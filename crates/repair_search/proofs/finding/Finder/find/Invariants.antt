-- No more look-ups are made than may be; each turn makes one.
use Rattle.std.proofs.Common.{◌≡◌, ◌+◌}
use Rattle.repair_search.proofs.finding.Finder.find.Given as goal

abbrev pub invariant-tokens : goal.invariant-tokens
invariant-tokens g l = l.self.used + l.self.left ≡ l.initial.self.used + l.initial.self.left

abbrev pub decreases-tokens : goal.decreases-tokens
decreases-tokens g l = l.self.stacks.left
