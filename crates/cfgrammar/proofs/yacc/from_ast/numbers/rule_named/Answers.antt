use Rattle.std.proofs.Common.{◌≡◌, ℕ, suc, ◌+◌, List, map, Contains, sym, ap, ◌∙◌, subst}
use Rattle.cfg_read.specs.Asts.{RuleAst}
use Rattle.cfg_read.specs.AstModels.{named_rule}
use Rattle.cfg_read.specs.WellFormedAst.{names_of_rules}
use Rattle.cfgrammar.specs.FromAst.{index_in}
use Rattle.cfgrammar.proofs.FromAstLookups.{map_twice, key_text, found_place, some_of, one_more}
use Rattle.cfgrammar.proofs.FromAstNames.{same_some}
use Rattle.cfgrammar.proofs.yacc.from_ast.numbers.rule_named.Goals as goal

pub unwrap-index-requires : goal.unwrap-index-requires
unwrap-index-requires g c =
    let es = c.rules.result.now.entries in
    let q = c.args.name.now in
    let names : names_of_rules c.args.ast.now ≡ map key_text es = ap (map (λ (r : RuleAst). r.name.text)) (sym c.rules.ensures.rules) ∙ map_twice named_rule (λ (r : RuleAst). r.name.text) es in
    let at = c.get_index_of.ensures.index ∙ found_place es q (subst (λ (ns : List (List ℕ)). Contains ns q) names c.requires.known) in
    some_of _ at

pub returns : goal.returns
returns g c =
    let es = c.rules.result.now.entries in
    let q = c.args.name.now in
    let names : names_of_rules c.args.ast.now ≡ map key_text es = ap (map (λ (r : RuleAst). r.name.text)) (sym c.rules.ensures.rules) ∙ map_twice named_rule (λ (r : RuleAst). r.name.text) es in
    let at = c.get_index_of.ensures.index ∙ found_place es q (subst (λ (ns : List (List ℕ)). Contains ns q) names c.requires.known) in
    let is : c.unwrap-index.result ≡ index_in (map key_text es) q = same_some _ _ (sym c.unwrap-index.ensures ∙ at) in
    c.index_of.ensures ∙ ap (λ (n : ℕ). n + 1) is ∙ one_more (index_in (map key_text es) q) ∙ ap (λ (ns : List (List ℕ)). suc (index_in ns q)) (sym names)
