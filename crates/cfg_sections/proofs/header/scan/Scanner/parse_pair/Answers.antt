use Rattle.std.proofs.Common.{sym, ap, ◌∙◌}
use Rattle.cfg_sections.specs.Sections.{begins_pair, here, no_pair}
use Rattle.cfg_sections.proofs.HeaderTokens.{no_pair_begins}
use Rattle.cfg_sections.proofs.SectionChains.{and_stops}
use Rattle.cfg_sections.proofs.header.scan.Scanner.parse_pair.Goals as goal

pub returns-in_default-clause-err : goal.returns-in_default-clause-err
returns-in_default-clause-err c = λ x. and_stops here (no_pair (ap begins_pair (sym c.token.ensures.value) ∙ no_pair_begins c.token.result c.in_default.not-Letter c.in_default.not-Exclamation))
