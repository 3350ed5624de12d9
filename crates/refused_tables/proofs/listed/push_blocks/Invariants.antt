use Rattle.std.proofs.Common.{◌≡◌, ◌≤◌, ◌++◌, length, ◌-◌, drop, map}
use Rattle.refused_tables.specs.Blocks.{go_together, groups}
use Rattle.refused_tables.proofs.listed.push_blocks.Given as goal

abbrev pub decreases-blocks-2 : goal.decreases-blocks-2
decreases-blocks-2 l = length l.listed - l.start

-- what was added, and what is left
abbrev pub invariant-blocks-2 : goal.invariant-blocks-2
invariant-blocks-2 l = (map (λ b. b.items) l.blocks.items ++ groups (go_together l.each) (drop l.start l.listed) ≡ map (λ b. b.items) l.initial.blocks.items ++ groups (go_together l.each) l.listed) × (l.start ≤ length l.listed)
