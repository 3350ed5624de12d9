use Rattle.std.proofs.Common.{sym, ap, ◌∙◌}
use Rattle.cfg_sections.specs.Sections.{is_close_paren, here, close_paren, no_end_paren}
use Rattle.cfg_sections.proofs.HeaderTokens.{no_paren_closes}
use Rattle.cfg_sections.proofs.SectionChains.{one, join, and_stops}
use Rattle.cfg_sections.proofs.header.scan.Scanner.parse_close_paren.Goals as goal

pub returns-in-CloseParen-clause-ok : goal.returns-in-CloseParen-clause-ok
returns-in-CloseParen-clause-ok c = λ k o p q x. join (one (close_paren (ap is_close_paren (sym c.in-CloseParen.ensures.value)))) (c.parse_ws.ensures.steps _ _)

pub returns-in_default-clause-err : goal.returns-in_default-clause-err
returns-in_default-clause-err c = λ k o p q x. and_stops here (no_end_paren (ap is_close_paren (sym c.token.ensures.value) ∙ no_paren_closes c.token.result c.in_default.not-CloseParen))
