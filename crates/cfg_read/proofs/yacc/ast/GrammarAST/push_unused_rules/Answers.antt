use Rattle.std.proofs.Common.{◌≡◌, ◌||◌, [], ◌∷◌, ◌++◌, map, not, if◌then◌else◌, sym, ap, ◌∙◌}
use Rattle.std.specs.String.{string_bytes}
use Rattle.cfg_read.specs.SyntaxTexts.{WordText}
use Rattle.cfg_read.specs.Asts.{Ast}
use Rattle.cfg_read.specs.AstModels.{ast_symbol_of, named_rule}
use Rattle.cfg_read.specs.FreshRules.{is_fresh_name}
use Rattle.cfg_read.specs.NameModels.{has_name}
use Rattle.cfg_read.specs.Warnings.{WarningText, UnusedRule, expects_rule, warnings_at, unused_rules}
use Rattle.cfg_read.specs.WarningModels.{warnings_in}
use Rattle.cfg_read.proofs.WarningLemmas.{told_more, with_rules}
use Rattle.cfg_read.proofs.yacc.ast.GrammarAST.push_unused_rules.Goals as goal

pub rules-preserved : goal.rules-preserved
rules-preserved c =
    let ast = c.args.self.now in
    let set = c.args.reached.now in
    let q = string_bytes c.in-Some.name.now in
    let ws = warnings_in c.rules.warnings.items in
    let w : WordText = record { text = q; span = c.in-Some.rule.now.name.1 } in
    let one : WarningText = record { kind = UnusedRule; spans = c.in-Some.rule.now.name.1 ∷ [] } in
    let symbols : map ast_symbol_of c.deref.result.now ≡ ast.expect_unused = ap (map ast_symbol_of) c.deref.ensures.value ∙ ap (λ (a : Ast). a.expect_unused) c.self.view_is in
    let silent : c.is_silent_rule-is_silent.result ≡ (is_fresh_name q || (has_name set q || expects_rule ast.expect_unused q)) =
    c.is_silent_rule-is_silent.ensures
    ∙ ap (λ t. is_fresh_name t || (has_name set t || has_name c.in_ok-expected.expected t)) c.as_str.ensures.value
    ∙ ap (λ b. is_fresh_name q || (has_name set q || b)) (c.in_ok-expected.ensures q ∙ ap (λ ss. expects_rule ss q) symbols) in
    told_more UnusedRule ws (warnings_in c.push_if.new.warnings.items) (not (is_fresh_name q || (has_name set q || expects_rule ast.expect_unused q))) w (unused_rules (has_name set) (with_rules ast (map named_rule c.next.new.self)))
    (c.in-Ok.ensures ∙ ap (λ b. ws ++ (if not b then one ∷ [] else [])) silent)
    ∙ ap (λ es. ws ++ warnings_at UnusedRule (unused_rules (has_name set) (with_rules ast (map named_rule es)))) (sym c.in-Some.ensures.steps)
    ∙ c.rules.invariant
