use Rattle.std.proofs.Common.{◌≡◌, ◌++◌, ◌∷◌, [], suc, rules, length, map, get_or, All, sym, ap, ◌∙◌, subst, arith}
use Rattle.std.proofs.lemmas.List.{map-append, length-map}
use Rattle.std.proofs.lemmas.Iterator.Consumers.{YieldsList-turn}
use Rattle.std.proofs.lemmas.Iterator.Adapters.{YieldsList-from_vec}
use Rattle.cfg_read.specs.Asts.{ProductionAst}
use Rattle.cfg_read.specs.AstModels as views
use Rattle.cfg_read.specs.WellFormedAst.{NamesOne}
use Rattle.cfgrammar.specs.FromAst.{file_head, file_productions, file_production_facts}
use Rattle.cfgrammar.proofs.FromAstSymbols.{under}
use Rattle.cfgrammar.proofs.FromAstLookups.{get_or_any}
use Rattle.cfgrammar.proofs.FromAstProductions.{file_made, made_count}
use Rattle.cfgrammar.proofs.yacc.from_ast.productions.file_parts.Goals as goal

pub file_part-requires-clause-known : goal.file_part-requires-clause-known
file_part-requires-clause-known g c =
    let ast = c.args.ast.now in
    let xs = c.args.from.items in
    let gives = c.into_iter-production-iterator.ensures.into_iter_gives in
    let turn = YieldsList-turn (YieldsList-from_vec {s = c.into_iter-production-iterator.result} xs gives.0 (gives.1 ∙ c.args.from.ok.0)) c.prods.yielded c.prods.production-iterator c.prods.yielded_by c.next.result c.next.new.self c.in-Some.production c.in-Some.is c.next.ensures.steps in
    subst (λ p. All (NamesOne ast) (views.production_of p).symbols) (sym turn.1) (under (λ (p : ProductionAst). All (NamesOne ast) p.symbols) views.production_of xs c.requires.known (length c.prods.yielded) c.in-Some.production turn.0)

pub file_part-requires-clause-index : goal.file_part-requires-clause-index
file_part-requires-clause-index g c =
    let ast = c.args.ast.now in
    let xs = c.args.from.items in
    let gives = c.into_iter-production-iterator.ensures.into_iter_gives in
    let turn = YieldsList-turn (YieldsList-from_vec {s = c.into_iter-production-iterator.result} xs gives.0 (gives.1 ∙ c.args.from.ok.0)) c.prods.yielded c.prods.production-iterator c.prods.yielded_by c.next.result c.next.new.self c.in-Some.production c.in-Some.is c.next.ensures.steps in
    let count = made_count views.production_of ast c.prods.made.items c.prods.yielded c.prods.invariant.1 in
    let len : c.len-in-prods.result ≡ length c.prods.made.items = search rules in
    let many = c.requires.count in
    let lt = turn.0 in
    let is = c.index-head.ensures ∙ get_or_any c.args.heads.items c.len-in-prods.result c.index-head.result.now 0 (omega (arith, len, count, many, lt)) ∙ ap (λ k. get_or c.args.heads.items k 0) (len ∙ count) in
    let within = c.requires.within (length c.prods.yielded) turn.0 in
    omega (arith, is, within)

pub prods-preserved : goal.prods-preserved
prods-preserved g c =
    let ast = c.args.ast.now in
    let implicit = c.args.implicit in
    let xs = c.args.from.items in
    let ys = c.prods.yielded in
    let x = c.in-Some.production in
    let gives = c.into_iter-production-iterator.ensures.into_iter_gives in
    let turn = YieldsList-turn (YieldsList-from_vec {s = c.into_iter-production-iterator.result} xs gives.0 (gives.1 ∙ c.args.from.ok.0)) c.prods.yielded c.prods.production-iterator c.prods.yielded_by c.next.result c.next.new.self c.in-Some.production c.in-Some.is c.next.ensures.steps in
    let count = made_count views.production_of ast c.prods.made.items c.prods.yielded c.prods.invariant.1 in
    let len : c.len-in-prods.result ≡ length c.prods.made.items = search rules in
    let many = c.requires.count in
    let lt = turn.0 in
    let is = c.index-head.ensures ∙ get_or_any c.args.heads.items c.len-in-prods.result c.index-head.result.now 0 (omega (arith, len, count, many, lt)) ∙ ap (λ k. get_or c.args.heads.items k 0) (len ∙ count) in
    let head : suc c.index-head.result.now ≡ file_head ast (length ys) = ap suc is ∙ c.requires.heads (length ys) turn.0 in
    let next : map views.production_of ys ++ views.production_of x ∷ [] ≡ map views.production_of (ys ++ x ∷ []) = sym (map-append views.production_of ys (x ∷ [])) in
    let step = file_made g.S.IndexStorage.number implicit ast c.prods.made.items _ c.in_ok-file_part.field-0 (map views.production_of ys) (views.production_of x) (length ys) c.index-head.result.now c.in_ok-push.ensures.items (sym (length-map ys views.production_of)) head
    c.in_ok-file_part.ensures.production c.in_ok-file_part.ensures.facts c.prods.invariant.0 c.prods.invariant.1 in
    (step.0 ∙ ap (file_productions implicit ast 0) next, step.1 ∙ ap (map (file_production_facts ast)) next)
