use Rattle.std.proofs.Common.{◌≡◌, [], ◌∷◌, ◌++◌, map, true, if◌then◌else◌, refl, sym, ap, ◌∙◌, subst, append_assoc, append-nil}
use Rattle.std.proofs.lemmas.Map.Iter.{rest_more, rest_all}
use Rattle.cfg_read.specs.WellFormedAst.{AreDistinct}
use Rattle.cfg_read.specs.AstModels.{named_rule}
use Rattle.cfg_numbered.specs.Info.{rule_facts}
use Rattle.cfg_numbered.specs.Value.{RuleFacts}
use Rattle.cfgrammar.specs.FromAst.{rules_of, file_rule_facts, added_rule_facts, start_name, implicit_start_name, implicit_name}
use Rattle.cfgrammar.proofs.FromAstTaken.{one_taken, next_is_free, second_is_free}
use Rattle.cfgrammar.proofs.yacc.from_ast.info.rules.Goals as goal

pub put_last-requires : goal.put_last-requires
put_last-requires c =
    let ast = c.args.ast.now in
    let es = c.rules.rules.entries in
    let f = file_rule_facts (named_rule (c.in-Some.name, c.in-Some.rule)) in
    let rest = map file_rule_facts (map named_rule c.next.new.self) in
    let added = if c.args.implicit then added_rule_facts implicit_start_name ∷ added_rule_facts implicit_name ∷ [] else [] in
    let step = rest_more (λ e. e) c.rules.name-iterator c.next.new.self c.next.result (c.in-Some.name, c.in-Some.rule) c.in-Some.is c.next.ensures.steps in
    let whole : map rule_facts es ++ f ∷ rest ≡ added_rule_facts start_name ∷ map file_rule_facts ast.rules = ap (λ l. map rule_facts es ++ map file_rule_facts (map named_rule l)) (sym step) ∙ c.rules.invariant in
    next_is_free rule_facts (λ r. r.name) (λ e. refl) (rules_of c.args.implicit ast) c.requires es f (rest ++ added) (sym (append_assoc (map rule_facts es) (f ∷ rest) added) ∙ ap (λ l. l ++ added) whole)

pub rules-preserved : goal.rules-preserved
rules-preserved c =
    let es = c.rules.rules.entries in
    let f = file_rule_facts (named_rule (c.in-Some.name, c.in-Some.rule)) in
    let rest = map file_rule_facts (map named_rule c.next.new.self) in
    let step = rest_more (λ e. e) c.rules.name-iterator c.next.new.self c.next.result (c.in-Some.name, c.in-Some.rule) c.in-Some.is c.next.ensures.steps in
    ap (λ l. map rule_facts l ++ rest) c.in_ok-put_last.ensures
    ∙ one_taken rule_facts es (c.in-Some.name, c.info_of.result) f rest (c.info_of.ensures c.in-Some.name)
    ∙ ap (λ l. map rule_facts es ++ map file_rule_facts (map named_rule l)) (sym step)
    ∙ c.rules.invariant

pub add_implicit-requires-clause-start : goal.add_implicit-requires-clause-start
add_implicit-requires-clause-start c =
    let ast = c.args.ast.now in
    let es = c.rules.rules.entries in
    let added = added_rule_facts implicit_start_name ∷ added_rule_facts implicit_name ∷ [] in
    let apart = subst (λ b. AreDistinct (map (λ (r : RuleFacts). r.name) (rules_of b ast))) c.if-implicit.true c.requires in
    let end = rest_all (λ e. e) c.rules.name-iterator c.next.new.self c.next.result c.in-None.is c.next.ensures.steps in
    let made : map rule_facts es ≡ added_rule_facts start_name ∷ map file_rule_facts ast.rules = sym (append-nil (map rule_facts es)) ∙ ap (λ l. map rule_facts es ++ map file_rule_facts (map named_rule l)) (sym end) ∙ c.rules.invariant in
    next_is_free rule_facts (λ r. r.name) (λ e. refl) (rules_of true ast) apart es (added_rule_facts implicit_start_name) (added_rule_facts implicit_name ∷ []) (ap (λ l. l ++ added) made)

pub add_implicit-requires-clause-rule : goal.add_implicit-requires-clause-rule
add_implicit-requires-clause-rule c =
    let ast = c.args.ast.now in
    let es = c.rules.rules.entries in
    let added = added_rule_facts implicit_start_name ∷ added_rule_facts implicit_name ∷ [] in
    let apart = subst (λ b. AreDistinct (map (λ (r : RuleFacts). r.name) (rules_of b ast))) c.if-implicit.true c.requires in
    let end = rest_all (λ e. e) c.rules.name-iterator c.next.new.self c.next.result c.in-None.is c.next.ensures.steps in
    let made : map rule_facts es ≡ added_rule_facts start_name ∷ map file_rule_facts ast.rules = sym (append-nil (map rule_facts es)) ∙ ap (λ l. map rule_facts es ++ map file_rule_facts (map named_rule l)) (sym end) ∙ c.rules.invariant in
    second_is_free rule_facts (λ r. r.name) (λ e. refl) (rules_of true ast) apart es (added_rule_facts implicit_start_name) (added_rule_facts implicit_name) [] (ap (λ l. l ++ added) made)
