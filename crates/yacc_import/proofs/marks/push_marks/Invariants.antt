use Rattle.std.proofs.Common.{◌≡◌, ◌++◌, take}
use Rattle.yacc_import.specs.Changes.{marks_of}
use Rattle.yacc_import.proofs.marks.push_marks.Given as goal

abbrev pub invariant-bytes : goal.invariant-bytes
invariant-bytes l = l.out.items ≡ l.fn.out.items ++ marks_of l.at (take l.i l.bytes)
