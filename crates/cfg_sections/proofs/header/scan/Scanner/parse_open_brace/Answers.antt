use Rattle.std.proofs.Common.{sym, ap, ◌∙◌}
use Rattle.cfg_sections.specs.Sections.{is_open_brace, here, no_brace}
use Rattle.cfg_sections.proofs.HeaderTokens.{no_brace_opens}
use Rattle.cfg_sections.proofs.SectionChains.{and_stops}
use Rattle.cfg_sections.proofs.header.scan.Scanner.parse_open_brace.Goals as goal

pub returns-in_default-clause-err : goal.returns-in_default-clause-err
returns-in_default-clause-err c = λ x. and_stops here (no_brace (ap is_open_brace (sym c.token.ensures.value) ∙ no_brace_opens c.token.result c.in_default.not-OpenBrace))
