use Rattle.std.proofs.Common.{◌≡◌, length, map}
use Rattle.cfg_sections.specs.Merges.{without}
use Rattle.cfg_sections.proofs.markmap.merge.take_out.Given as goal

-- what is still to be taken out leaves the same
abbrev pub invariant-keys : goal.invariant-keys
invariant-keys g l = without g.K.Ord.cmp l.slots.entries (map (λ k. k.now) l.added.items) ≡ without g.K.Ord.cmp l.fn.slots.entries (map (λ k. k.now) l.fn.added.items)

abbrev pub decreases-keys : goal.decreases-keys
decreases-keys g l = length l.added.items
