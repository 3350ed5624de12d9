use Rattle.std.proofs.Common.{◌≡◌, ◌++◌, ap, ◌∙◌}
use Rattle.cfg_read.proofs.Joined.{joined}
use Rattle.cfg_read.specs.SyntaxTexts.{SyntaxText}
use Rattle.cfg_read.specs.Names.{is_among}
use Rattle.cfg_read.specs.SyntaxModels.{words_of, syntax_of}
use Rattle.cfg_read.specs.NameTables.{known_of}
use Rattle.cfg_read.specs.Settling.{unknown_words, uses_of}
use Rattle.cfg_read.specs.ErrorModels.{failures_in}
use Rattle.cfg_read.specs.Validity.{failures_at, invalid_start_rule, unknown_in_declarations, UnknownRuleRef}
use Rattle.cfg_read.proofs.yacc.validity.unknown.push_unknown_names.Goals as goal

pub returns : goal.returns
returns c =
    let x : SyntaxText = syntax_of c.args.x.now in
    let rules = (known_of c.args.uses.now.table).rules in
    let base = failures_in c.args.errors.now.items in
    let a = invalid_start_rule rules x.starts in
    let b = failures_at UnknownRuleRef (uses_of c.args.uses.now).unknown in
    let d = failures_in c.args.precs.items in
    let e = unknown_in_declarations rules (is_among c.args.uses.now.table.tokens) x in
    let one = failures_in c.push_invalid_start.new.errors.items in
    let two = failures_in c.push_all_unknown.new.errors.items in
    let three = failures_in c.push_errors.new.errors.items in
    let four = failures_in c.push_unknown_in_declarations.new.errors.items in
    let start : one ≡ base ++ a = c.in_ok-push_invalid_start.ensures ∙ ap (λ ws. base ++ invalid_start_rule rules (words_of ws)) c.deref.ensures.value in
    let used : two ≡ one ++ b = c.in_ok-push_all_unknown.ensures ∙ ap (λ ns. one ++ failures_at UnknownRuleRef (unknown_words ns)) c.deref-2.ensures.value in
    joined base three four (a ++ (b ++ d)) e
    (joined base one three a (b ++ d) start (joined one two three b d used c.in_ok-push_errors.ensures))
    c.in_ok-push_unknown_in_declarations.ensures
