-- The marks so far are those of the errors so far, and reading is behind the last of them.
use Rattle.std.proofs.Common.{◌≡◌, [], take}
use Rattle.lrkit_c.specs.Reading.{MarksErrors}
use Rattle.lrkit_c.proofs.reading.push_errors.Given as goal

abbrev pub invariant-errors : goal.invariant-errors
invariant-errors l =
    (l.prefix.parser ≡ l.parser) ×
    MarksErrors l.parser (take l.index l.errors) (record { front = []; left = l.lexemes }) (record { front = l.prefix.tokens; left = l.left }) l.marks.items
