use Rattle.std.specs.Prelude.{map}
use Rattle.cfg_sections.specs.SectionResults.{pair_text}
use Rattle.cfg_sections.specs.SectionRepeats.{Holds}
use Rattle.cfg_sections.proofs.header.section.header_of.Given as goal

abbrev pub invariant-pairs : goal.invariant-pairs
invariant-pairs l = Holds l.header (map pair_text l.yielded)
