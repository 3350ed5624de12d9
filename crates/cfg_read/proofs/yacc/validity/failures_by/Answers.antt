use Rattle.std.proofs.Common.{◌≡◌, ◌++◌, [], ℕ, Bool, List, ap, ◌∙◌}
use Rattle.cfg_read.proofs.Joined.{joined}
use Rattle.cfg_read.proofs.NameLemmas.{among_distinct}
use Rattle.cfg_read.specs.SyntaxTexts.{SyntaxText}
use Rattle.cfg_read.specs.Names.{is_among, is_rule, is_grammar_token, rules_used, token_appearances}
use Rattle.cfg_read.specs.SyntaxModels.{words_of, syntax_of}
use Rattle.cfg_read.specs.Settling.{uses_of}
use Rattle.cfg_read.specs.Judging.{with_rules}
use Rattle.cfg_read.specs.ErrorModels.{failures_in}
use Rattle.cfg_read.specs.Validity.{no_start_rule, failures_at, unknown_by, invalid_start_rule, unknown_in_declarations, unknown_names, repeated_words, repeated_declarations, UnknownRuleRef}
use Rattle.cfg_read.proofs.yacc.validity.failures_by.Goals as goal

pub returns : goal.returns
returns c = λ rules has are precs.
    let x : SyntaxText = with_rules (syntax_of c.args.x.now) rules in
    let u = uses_of c.args.uses.now in
    let one = failures_in c.push_no_start.new.errors.items in
    let two = failures_in c.push_unknown_names.new.errors.items in
    let three = failures_in c.push_repeated_words.new.errors.items in
    let four = failures_in c.push_repeated_declarations.new.errors.items in
    let start : one ≡ no_start_rule x.starts x.rules =
    c.in_ok-push_no_start.ensures rules has
    ∙ ap (λ es. failures_in es ++ no_start_rule (words_of c.deref.result.now) rules) c.new-errors.ensures.items
    ∙ ap (λ ws. no_start_rule (words_of ws) rules) c.deref.ensures.value in
    let tokens : is_among u.known.tokens ≡ is_grammar_token x = ap is_among are.tokens_is ∙ (λ j q. among_distinct (token_appearances x) q j) in
    let unknown : two ≡ one ++ unknown_names x =
    c.in_ok-push_unknown_names.ensures
    ∙ ap (λ (p : List ℕ → Bool). one ++ ((invalid_start_rule p x.starts ++ (failures_at UnknownRuleRef u.unknown ++ failures_in c.args.precs.items)) ++ unknown_in_declarations p (is_among u.known.tokens) x)) are.rules_is
    ∙ ap (λ (p : List ℕ → Bool). one ++ ((invalid_start_rule (is_rule x) x.starts ++ (failures_at UnknownRuleRef u.unknown ++ failures_in c.args.precs.items)) ++ unknown_in_declarations (is_rule x) p x)) tokens
    ∙ ap (λ ws. one ++ ((invalid_start_rule (is_rule x) x.starts ++ (failures_at UnknownRuleRef ws ++ failures_in c.args.precs.items)) ++ unknown_in_declarations (is_rule x) (is_grammar_token x) x)) are.unknown_is
    ∙ ap (λ fs. one ++ ((invalid_start_rule (is_rule x) x.starts ++ (unknown_by UnknownRuleRef (is_rule x) (rules_used x) ++ fs)) ++ unknown_in_declarations (is_rule x) (is_grammar_token x) x)) precs in
    joined [] one four (no_start_rule x.starts x.rules) (unknown_names x ++ (repeated_words x ++ repeated_declarations x)) start
    (joined one two four (unknown_names x) (repeated_words x ++ repeated_declarations x) unknown
    (joined two three four (repeated_words x) (repeated_declarations x) c.in_ok-push_repeated_words.ensures c.in_ok-push_repeated_declarations.ensures))
