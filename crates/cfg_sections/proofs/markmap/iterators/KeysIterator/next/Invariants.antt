use Rattle.std.proofs.Common.{◌≡◌, length}
use Rattle.cfg_sections.specs.MarkMaps.{keys_among}
use Rattle.cfg_sections.proofs.markmap.iterators.KeysIterator.next.Given as goal

-- the entries passed by have no value
abbrev pub invariant-loop-key : goal.invariant-loop-key
invariant-loop-key g l = keys_among l.self-inside.slots ≡ l.fn.self

abbrev pub decreases-loop-key : goal.decreases-loop-key
decreases-loop-key g l = length l.self-inside.slots
