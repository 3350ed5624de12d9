use Rattle.std.proofs.Common.{◌≡◌, ap, ◌∙◌}
use Rattle.std.specs.String.{string_bytes}
use Rattle.cfg_read.specs.SyntaxTexts.{WordText}
use Rattle.cfg_read.specs.AstModels.{named_span}
use Rattle.cfg_read.specs.NameTexts.{name_text}
use Rattle.cfg_read.proofs.AstLemmas.{insert_new}
use Rattle.std.proofs.Common.{map}
use Rattle.cfg_read.proofs.yacc.name_table.add_token.Goals as goal

pub returns-clause-added : goal.returns-clause-added
returns-clause-added c =
    let w : WordText = record { text = name_text c.args.name.now; span = c.args.span } in
    let same : string_bytes c.in_ok-text.text ≡ w.text = c.in_ok-text.ensures.ok ∙ c.as_str.ensures in
    ap (map named_span) c.in_ok-insert.ensures.entries ∙ insert_new c.args.tokens.now.entries c.in_ok-text.text w same c.requires
