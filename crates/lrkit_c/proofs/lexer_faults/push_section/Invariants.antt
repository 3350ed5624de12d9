-- The text so far has a message for each error so far.
use Rattle.std.proofs.Common.{take}
use Rattle.std.specs.Prelude.{string_bytes}
use Rattle.lrkit_c.specs.Faults.{ShowsEach}
use Rattle.lrkit_c.proofs.lexer_faults.push_section.Given as goal

abbrev pub invariant-errors : goal.invariant-errors
invariant-errors l = ShowsEach l.source (take l.index l.errors) (string_bytes l.text)
