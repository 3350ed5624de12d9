use Rattle.std.specs.Prelude.{map}
use Rattle.lrtable.specs.Fronts.{front_of}
use Rattle.lrtable.specs.Opening.{GainsOwn}
use Rattle.lrtable.proofs.opening.Opening.keep_own.Given as goal

abbrev pub invariant-openers : goal.invariant-openers
invariant-openers l = GainsOwn (map front_of l.openers) l.rule l.initial.self l.self
