use Rattle.std.proofs.Common.{[], ◌∷◌, Option, IfSome, map, take, length, get_or, sym, ap, ◌∙◌, subst, arith}
use Rattle.std.proofs.lemmas.List.{map-append, length-map}
use Rattle.std.proofs.lemmas.Option.{slice_get-get_or}
use Rattle.cfg_read.specs.SyntaxTexts.{WordText}
use Rattle.cfg_read.specs.AstModels.{named_span}
use Rattle.cfgrammar.specs.FromAst.{nowhere, implicit_production}
use Rattle.cfgrammar.specs.AddedProductions.{Adds}
use Rattle.cfgrammar.proofs.FromAstLookups.{take_next}
use Rattle.cfgrammar.proofs.FromAstProductions.{adds_more}
use Rattle.cfgrammar.proofs.yacc.from_ast.productions.push_implicits.Goals as goal

pub tokens-preserved : goal.tokens-preserved
tokens-preserved g c =
    let ast = c.args.ast.now in
    let number = g.S.IndexStorage.number in
    let ws = ast.implicit_tokens in
    let k = c.tokens.index in
    let old = c.args.made.now.items in
    let mid = c.tokens.made.items in
    let new = c.push_implicit.new.made.items in
    let d : WordText = record { text = []; span = nowhere } in
    let len = c.len-index-end.ensures.len in
    let mapped = length-map c.implicit_tokens.result.now.entries named_span in
    let same = ap length c.implicit_tokens.ensures in
    let at = slice_get-get_or ws k d (omega (arith, len, mapped, same)) in
    let w = get_or ws k d in
    let one : Adds number mid new (implicit_production ast w ∷ []) = subst (λ (o : Option WordText). IfSome o (λ (v : WordText). Adds number mid new (implicit_production ast v ∷ []))) at c.in_ok-push_implicit.ensures in
    subst (λ ps. Adds number old new ps)
    (sym (map-append (implicit_production ast) (take k ws) (w ∷ [])) ∙ ap (map (implicit_production ast)) (sym (take_next ws k w at)))
    (adds_more number old mid new (map (implicit_production ast) (take k ws)) (implicit_production ast w ∷ []) c.tokens.invariant one)
