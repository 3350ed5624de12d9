use Rattle.std.proofs.Common.{length}
use Rattle.cfg_base.specs.declared.span.Location.TheVariants.{Span}
use Rattle.cfg_sections.proofs.LocatedHeaders.{MapsBefore}
use Rattle.cfg_sections.proofs.header.convert.try_from_header.Given as goal

-- the keys before those that are left have their values
abbrev pub invariant-keys : goal.invariant-keys
invariant-keys l = MapsBefore Span l.keys l.header l.located

abbrev pub decreases-keys : goal.decreases-keys
decreases-keys l = length l.keys
