-- What is made, and what the notes to come make of the rest, is all of the result.
use Rattle.std.proofs.Common.{◌≡◌, ◌++◌, drop}
use Rattle.yacc_import.specs.Changes.{changed, Fits}
use Rattle.yacc_import.proofs.marks.marks_for.Given as goal

abbrev pub invariant-notes : goal.invariant-notes
invariant-notes l = (l.out.items ++ changed l.source l.at (drop l.note-index l.notes) ≡ changed l.source 0 l.notes) × (Fits l.source l.at (drop l.note-index l.notes) → Fits l.source 0 l.notes)
