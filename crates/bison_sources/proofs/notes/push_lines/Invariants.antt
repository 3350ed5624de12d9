-- The lines of the messages so far are behind the text.
use Rattle.std.proofs.Common.{◌≡◌, ◌++◌, take, string_bytes}
use Rattle.std.specs.Prelude.{flat_map}
use Rattle.bison_sources.specs.Notes.{line_of}
use Rattle.bison_sources.proofs.notes.push_lines.Given as goal

abbrev pub invariant-notes : goal.invariant-notes
invariant-notes l = string_bytes l.text ≡ string_bytes l.fn.text ++ flat_map (line_of l.file) (take l.note-index l.notes)
