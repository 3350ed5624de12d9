use Rattle.std.proofs.Common.{◌≡◌, ◌++◌, ◌∷◌, [], ◌≤◌, List, suc, length, map, get_or, All, Contains, IsSomeAnd, if◌then◌else◌, sym, ap, ◌∙◌, subst, arith}
use Rattle.std.proofs.lemmas.List.{length-map}
use Rattle.cfg_read.specs.Asts.{Ast, ProductionAst}
use Rattle.cfg_read.specs.AstModels as views
use Rattle.cfg_read.specs.Names.{texts}
use Rattle.cfg_read.specs.WellFormedAst.{names_of_rules, names_of_tokens, NamesOne, NameTokens}
use Rattle.cfgrammar.specs.FromAst.{precedence_of, rules_of, file_head, file_productions, file_production_facts, start_production, implicit_productions, added_production_facts}
use Rattle.cfgrammar.proofs.FromAstHeads.{head_within}
use Rattle.cfgrammar.proofs.yacc.from_ast.productions.all.Goals as goal

pub file_parts-requires-clause-told : goal.file_parts-requires-clause-told
file_parts-requires-clause-told g c = subst (λ (a : Ast). c.args.levels.now ≡ map (precedence_of a) (names_of_tokens a)) (sym c.take_prods-from.ensures.rest) c.requires.told

pub file_parts-requires-clause-known : goal.file_parts-requires-clause-known
file_parts-requires-clause-known g c =
    let all = subst (λ (ps : List ProductionAst). All (λ (p : ProductionAst). All (NamesOne c.args.ast.now) p.symbols) ps) (sym c.take_prods-from.ensures.productions) c.requires.sound.symbols in
    subst (λ (a : Ast). All (λ (p : ProductionAst). All (NamesOne a) p.symbols) (map views.production_of c.take_prods-from.result.items)) (sym c.take_prods-from.ensures.rest) all

pub file_parts-requires-clause-within : goal.file_parts-requires-clause-within
file_parts-requires-clause-within g c = λ p lt.
    let ast = c.args.ast.now in
    let len = length-map c.take_prods-from.result.items views.production_of in
    let same = ap length c.take_prods-from.ensures.productions in
    let within = head_within ast c.requires.sound c.in_ok-heads.heads.items p (omega (arith, len, same, lt)) (c.in_ok-heads.ensures.each p (omega (arith, len, same, lt))) in
    let few = ap (λ (a : Ast). length a.rules) c.take_prods-from.ensures.rest in
    omega (arith, within, few)

pub file_parts-requires-clause-heads : goal.file_parts-requires-clause-heads
file_parts-requires-clause-heads g c = λ p lt.
    let len = length-map c.take_prods-from.result.items views.production_of in
    let same = ap length c.take_prods-from.ensures.productions in
    subst (λ (a : Ast). suc (get_or c.in_ok-heads.heads.items p 0) ≡ file_head a p) (sym c.take_prods-from.ensures.rest) (c.in_ok-heads.ensures.each p (omega (arith, len, same, lt)))

pub file_parts-requires-clause-count : goal.file_parts-requires-clause-count
file_parts-requires-clause-count g c =
    let len = length-map c.take_prods-from.result.items views.production_of in
    c.in_ok-heads.ensures.count ∙ sym (ap length c.take_prods-from.ensures.productions) ∙ len

pub file_parts-requires-clause-rules : goal.file_parts-requires-clause-rules
file_parts-requires-clause-rules g c = subst (λ (a : Ast). length (rules_of c.args.implicit a) ≤ g.S.IndexStorage.MAX) (sym c.take_prods-from.ensures.rest) c.requires.rules

pub file_parts-requires-clause-tokens : goal.file_parts-requires-clause-tokens
file_parts-requires-clause-tokens g c = subst (λ (a : Ast). length a.tokens ≤ g.S.IndexStorage.MAX) (sym c.take_prods-from.ensures.rest) c.requires.tokens

pub push_all_added-requires-clause-start : goal.push_all_added-requires-clause-start
push_all_added-requires-clause-start g c = subst (λ (a : Ast). IsSomeAnd a.start (λ w. Contains (names_of_rules a) w.text)) (sym c.take_prods-from.ensures.rest) c.requires.sound.start

pub push_all_added-requires-clause-named : goal.push_all_added-requires-clause-named
push_all_added-requires-clause-named g c = subst (λ (a : Ast). NameTokens a (texts a.implicit_tokens)) (sym c.take_prods-from.ensures.rest) c.requires.sound.implicit_are_tokens

pub push_all_added-requires-clause-rules : goal.push_all_added-requires-clause-rules
push_all_added-requires-clause-rules g c = subst (λ (a : Ast). length (rules_of c.args.implicit a) ≤ g.S.IndexStorage.MAX) (sym c.take_prods-from.ensures.rest) c.requires.rules

pub push_all_added-requires-clause-tokens : goal.push_all_added-requires-clause-tokens
push_all_added-requires-clause-tokens g c = subst (λ (a : Ast). length a.tokens ≤ g.S.IndexStorage.MAX) (sym c.take_prods-from.ensures.rest) c.requires.tokens

pub returns-clause-productions : goal.returns-clause-productions
returns-clause-productions g c =
    let implicit = c.args.implicit in
    let added = λ (a : Ast). start_production implicit a ∷ (if implicit then implicit_productions a else []) in
    c.in_ok-push_all_added.ensures.productions
    ∙ ap (λ l. l ++ added c.take_prods-from.new.self) c.in_ok-made.ensures.productions
    ∙ ap (λ (a : Ast). file_productions implicit a 0 (map views.production_of c.take_prods-from.result.items) ++ added a) c.take_prods-from.ensures.rest
    ∙ ap (λ ps. file_productions implicit c.args.ast.now 0 ps ++ added c.args.ast.now) c.take_prods-from.ensures.productions

pub returns-clause-facts : goal.returns-clause-facts
returns-clause-facts g c =
    let implicit = c.args.implicit in
    let added = λ (a : Ast). map added_production_facts (start_production implicit a ∷ (if implicit then implicit_productions a else [])) in
    c.in_ok-push_all_added.ensures.facts
    ∙ ap (λ l. l ++ added c.take_prods-from.new.self) c.in_ok-made.ensures.facts
    ∙ ap (λ (a : Ast). map (file_production_facts a) (map views.production_of c.take_prods-from.result.items) ++ added a) c.take_prods-from.ensures.rest
    ∙ ap (λ ps. map (file_production_facts c.args.ast.now) ps ++ added c.args.ast.now) c.take_prods-from.ensures.productions
