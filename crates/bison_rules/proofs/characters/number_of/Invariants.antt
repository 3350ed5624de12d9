-- What is made of the digits so far and of the others is what is made of all.
use Rattle.std.proofs.Common.{◌≡◌, drop}
use Rattle.bison_rules.specs.Characters.{number_from}
use Rattle.bison_rules.proofs.characters.number_of.Given as goal

abbrev pub invariant-digits : goal.invariant-digits
invariant-digits l = number_from l.base l.number (drop l.digit-index l.digits) ≡ number_from l.base 0 l.digits
