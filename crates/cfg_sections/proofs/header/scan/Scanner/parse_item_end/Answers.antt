use Rattle.std.proofs.Common.{sym, ap, ◌∙◌}
use Rattle.cfg_sections.specs.Sections.{ends_item, here, item_comma, no_item_comma, no_end_bracket}
use Rattle.cfg_sections.proofs.HeaderTokens.{no_item_end}
use Rattle.cfg_sections.proofs.SectionChains.{one, join, and_stops}
use Rattle.cfg_sections.proofs.header.scan.Scanner.parse_item_end.Goals as goal

pub returns-in-Comma-clause-ok : goal.returns-in-Comma-clause-ok
returns-in-Comma-clause-ok c = λ k o items start s x. join (one (item_comma (sym c.in-Comma.ensures.value))) (c.parse_ws.ensures.steps _ _)

pub returns-in-CloseBracket-clause-ok : goal.returns-in-CloseBracket-clause-ok
returns-in-CloseBracket-clause-ok c = λ k o items start s x. one (no_item_comma (sym c.in-CloseBracket.ensures.value))

pub returns-in_default-clause-err : goal.returns-in_default-clause-err
returns-in_default-clause-err c = λ k o items start s x. and_stops here (no_end_bracket (ap ends_item (sym c.token.ensures.value) ∙ no_item_end c.token.result c.in_default.not-Comma c.in_default.not-CloseBracket))
