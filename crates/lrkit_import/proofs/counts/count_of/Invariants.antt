-- The notes so far and the others are counted, and no more notes than there were so far.
use Rattle.std.proofs.Common.{◌≡◌, ◌+◌, ◌≤◌, drop}
use Rattle.lrkit_import.specs.Counts.{count_of}
use Rattle.lrkit_import.proofs.counts.count_of.Given as goal

abbrev pub invariant-notes : goal.invariant-notes
invariant-notes l = (l.count + count_of l.words (drop l.note-index l.notes) ≡ count_of l.words l.notes) × (l.count ≤ l.note-index)
