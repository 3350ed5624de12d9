use Rattle.std.proofs.Common.{◌≡◌, ◌+◌, ◌∷◌, [], ◌++◌, List, take, length, map, max, sym, ap, ◌∙◌, arith}
use Rattle.std.specs.List.{flat_map}
use Rattle.std.proofs.lemmas.List.{take_more, take_all, map-append}
use Rattle.cfg_read.specs.Asts.{SymbolAst}
use Rattle.cfg_read.specs.AstModels.{production_of}
use Rattle.cfgrammar.specs.FromAst.{as_told, syms_of, longest, file_productions}
use Rattle.cfgrammar.proofs.FromAstCounts.{added_longest, longest_more, longest_all, told_max, max_step}
use Rattle.cfgrammar.proofs.yacc.from_ast.counts.longest.Goals as goal

pub prods-preserved : goal.prods-preserved
prods-preserved c =
    let xs = c.prods-prod-items.result.now in
    let i = c.prods.prod-index in
    let x = c.prod-item.result in
    let more : take (i + 1) xs ≡ take i xs ++ x ∷ [] = take_more xs i x (omega arith) ∙ ap (λ y. take i xs ++ y ∷ []) (sym c.prod-item.is) in
    let mapped : map production_of (take (i + 1) xs) ≡ map production_of (take i xs) ++ production_of x ∷ [] = ap (map production_of) more ∙ map-append production_of (take i xs) (x ∷ []) in
    let longer = longest_more c.args.implicit c.args.ast.now 0 (map production_of (take i xs)) (production_of x) in
    let step = ap (λ ps. longest (file_productions c.args.implicit c.args.ast.now 0 ps)) mapped in
    let here = c.count_symbols.ensures c.args.ast.now in
    let all = (step ∙ longer) in
    told_max c.prods.most c.count_symbols.result c.max-most.result _ _ _ c.prods.invariant here c.max-most.ensures
    (max_step (added_longest c.args.implicit) _ _ _ _ all (ap (λ (ss : List SymbolAst). length (flat_map (syms_of c.args.implicit c.args.ast.now) ss)) (sym c.symbols.ensures)))

pub returns : goal.returns
returns c =
    let xs = c.prods-prod-items.result.now in
    let rest : take c.prods.prod-index xs ≡ xs = take_all c.prods.prod-index xs (omega arith) in
    c.prods.invariant
    ∙ ap (λ ps. as_told (max (added_longest c.args.implicit) (longest (file_productions c.args.implicit c.args.ast.now 0 ps)))) (ap (map production_of) rest ∙ c.prods-prod-items.ensures)
    ∙ ap as_told (sym (longest_all c.args.implicit c.args.ast.now))
