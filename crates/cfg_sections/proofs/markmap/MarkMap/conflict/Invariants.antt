use Rattle.std.proofs.Common.{◌≡◌, filter}
use Rattle.cfg_sections.specs.Merges.{conflicts_at, conflicts_of}
use Rattle.cfg_sections.proofs.markmap.MarkMap.conflict.Given as goal

-- no key so far
abbrev pub invariant-keys : goal.invariant-keys
invariant-keys g l = conflicts_of g.K.Ord.cmp l.self l.other ≡ filter (conflicts_at g.K.Ord.cmp l.self l.other) l.key-iterator
