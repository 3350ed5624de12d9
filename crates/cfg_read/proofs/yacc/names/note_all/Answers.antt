use Rattle.std.proofs.Common.{false, [], map, fold, ap, ◌∙◌}
use Rattle.cfg_read.specs.SyntaxTexts.{RuleText}
use Rattle.cfg_read.specs.Names.{words_in, is_among, is_rule, headings, declared_tokens, implicit_tokens_of, by_offset}
use Rattle.cfg_read.specs.SyntaxModels.{symbols_of, rule_of, syntax_of}
use Rattle.cfg_read.specs.NameModels.{symbols_at}
use Rattle.cfg_read.specs.NameTables.{with_declared, with_rule_name, with_token, known_of}
use Rattle.cfg_read.proofs.KnownLemmas.{all_declared, all_rules, all_tokens}
use Rattle.cfg_read.proofs.yacc.names.note_all.Goals as goal

pub returns : goal.returns
returns c =
    let x = syntax_of c.args.x.now in
    let told = by_offset (declared_tokens x) (implicit_tokens_of x) in
    c.in_ok-note_tokens.ensures
    ∙ ap (λ l. fold with_token (known_of c.note_rules.new.table) (words_in (symbols_at l))) c.deref-3.ensures.value
    ∙ ap (λ l. fold with_token (known_of c.note_rules.new.table) l) c.in_ok-told.ensures
    ∙ ap (λ k. fold with_token k told) (c.in_ok-note_rules.ensures ∙ ap (λ l. fold with_rule_name (known_of c.note_declared.new.table) (map (λ (r : RuleText). r.name) (map rule_of l))) c.deref-2.ensures.value)
    ∙ ap (λ k. fold with_token (fold with_rule_name k (headings x)) told) (c.in_ok-note_declared.ensures ∙ ap (λ l. fold with_declared (known_of c.args.table.now) (words_in (symbols_of l))) c.deref.ensures.value)
    ∙ ap (λ k. fold with_token (fold with_rule_name (fold with_declared k (declared_tokens x)) (headings x)) told) c.requires
    ∙ ap (λ k. fold with_token (fold with_rule_name k (headings x)) told) (all_declared (λ q. false) (λ q. false) [] (declared_tokens x))
    ∙ ap (λ k. fold with_token k told) (all_rules (is_among (declared_tokens x)) (λ q. false) [] (headings x))
    ∙ all_tokens (is_among (declared_tokens x)) (is_rule x) [] told
