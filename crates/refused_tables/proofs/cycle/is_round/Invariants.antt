use Rattle.std.proofs.Common.{◌≡◌, map, take}
use Rattle.refused_tables.specs.Cycles.{Continue}
use Rattle.refused_tables.proofs.Rounds.{last_of}
use Rattle.refused_tables.proofs.cycle.is_round.Given as goal

-- those up to the index continue each other
abbrev pub invariant-productions : goal.invariant-productions
invariant-productions l = Continue l.grm.grammar l.initial.before.0 (map (λ p. p.0) (take l.index l.productions)) × (l.before.0 ≡ last_of l.initial.before.0 (map (λ p. p.0) (take l.index l.productions)))
