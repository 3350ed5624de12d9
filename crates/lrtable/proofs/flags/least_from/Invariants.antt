use Rattle.std.specs.Prelude.{take}
use Rattle.lrtable.proofs.FlagWalks.{LeastSoFar}
use Rattle.lrtable.proofs.flags.least_from.Given as goal

abbrev pub invariant-numbers : goal.invariant-numbers
invariant-numbers l = LeastSoFar l.bits.bits l.from (take l.k l.numbers) l.least
