use Rattle.std.proofs.Common.{sym, ap, ◌∙◌}
use Rattle.cfg_sections.specs.Sections.{ends_pair, here, comma, no_comma, no_end_brace}
use Rattle.cfg_sections.proofs.HeaderTokens.{no_pair_end}
use Rattle.cfg_sections.proofs.SectionChains.{one, join, and_stops}
use Rattle.cfg_sections.proofs.header.scan.Scanner.parse_pair_end.Goals as goal

pub returns-in-Comma-clause-ok : goal.returns-in-Comma-clause-ok
returns-in-Comma-clause-ok c = λ p x. join (one (comma (sym c.in-Comma.ensures.value))) (c.parse_ws.ensures.steps _ _)

pub returns-in-CloseBrace-clause-ok : goal.returns-in-CloseBrace-clause-ok
returns-in-CloseBrace-clause-ok c = λ p x. one (no_comma (sym c.in-CloseBrace.ensures.value))

pub returns-in_default-clause-err : goal.returns-in_default-clause-err
returns-in_default-clause-err c = λ p x. and_stops here (no_end_brace (ap ends_pair (sym c.token.ensures.value) ∙ no_pair_end c.token.result c.in_default.not-Comma c.in_default.not-CloseBrace))
