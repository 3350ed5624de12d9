-- Openers as contracts see them.
use Rattle.std.specs.Prelude.{ℕ}
use Rattle.lrtable.specs.declared.openers.Opener.{Opener}
use Rattle.lrtable.specs.declared.tails.Rest.{Rest}
use Rattle.lrtable.specs.Opening.{Front}

-- a rule with what follows it
abbrev pub front_with : ℕ → Rest → Front
front_with A r = record { rule = A; first = r.first.bits; nullable = r.nullable }

abbrev pub front_of : Opener → Front
front_of o = front_with o.rule o.rest
