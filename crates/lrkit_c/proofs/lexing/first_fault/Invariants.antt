-- The first error is not among the items so far.
use Rattle.std.proofs.Common.{◌≡◌, drop}
use Rattle.lrkit_c.specs.Lexed.{first_fault}
use Rattle.lrkit_c.proofs.lexing.first_fault.Given as goal

abbrev pub invariant-items : goal.invariant-items
invariant-items l = first_fault (drop l.index l.items) ≡ first_fault l.items
