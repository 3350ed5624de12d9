use Rattle.std.proofs.Common.{◌≡◌, length}
use Rattle.lrtable.specs.MadeTails.{AreTails}
use Rattle.lrtable.proofs.tails.Tails.put_all.Given as goal

abbrev pub invariant-prods : goal.invariant-prods
invariant-prods g l = record { tails : AreTails l.grm.grammar l.self; width : length l.rest.first.bits ≡ l.grm.grammar.tokens }

abbrev pub invariant-places : goal.invariant-places
invariant-places g l = record { tails : AreTails l.grm.grammar l.self; width : length l.rest.first.bits ≡ l.grm.grammar.tokens }
