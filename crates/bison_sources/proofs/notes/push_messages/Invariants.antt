-- The messages so far, and those of the other notes.
use Rattle.std.proofs.Common.{◌≡◌, ◌++◌, drop, map}
use Rattle.bison_sources.specs.Notes as spec
use Rattle.bison_sources.proofs.notes.push_messages.Given as goal

abbrev pub invariant-notes : goal.invariant-notes
invariant-notes l = map spec.said l.messages.items ++ spec.messages_of l.all (drop l.note-index l.notes) ≡ map spec.said l.fn.messages.items ++ spec.messages_of l.all l.notes
