use Rattle.std.specs.Prelude.{take}
use Rattle.lrtable.proofs.FlagWalks.{ClearedSoFar}
use Rattle.lrtable.proofs.flags.clear_each.Given as goal

abbrev pub invariant-numbers : goal.invariant-numbers
invariant-numbers l = ClearedSoFar l.initial.bits.bits (take l.number-index l.numbers) l.bits.bits
