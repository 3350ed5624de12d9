use Rattle.std.proofs.Common.{◌≡◌, ◌++◌, take}
use Rattle.yacc_import.specs.Changes.{put_at}
use Rattle.yacc_import.proofs.marks.push_put.Given as goal

abbrev pub invariant-bytes : goal.invariant-bytes
invariant-bytes l = l.out.items ≡ l.fn.out.items ++ put_at l.place (take l.b-index l.bytes)
