use Rattle.std.proofs.Common.{◌≡◌, ◌<◌, ◌≤◌, ◌+◌, ◌++◌, [], ◌∷◌, map, take, length, fold, sym, ap, ◌∙◌, arith}
use Rattle.std.proofs.lemmas.List.{map-append, length-map, length-take-le, take_more}
use Rattle.cfg_read.specs.Asts.{with_precedence_of, precedence_ast, level_precedences, precedences_of}
use Rattle.cfg_read.specs.AstModels.{named_precedences}
use Rattle.cfg_read.specs.Names.{words_in}
use Rattle.cfg_read.specs.SyntaxModels.{level_of, symbols_of}
use Rattle.cfg_read.proofs.AstLemmas.{precedences_step}
use Rattle.cfg_read.proofs.yacc.ast.parts.first_precedences.Goals as goal

pub levels-preserved : goal.levels-preserved
levels-preserved c =
    let ls = c.args.levels.now in
    let i = c.levels.number in
    let x = c.index-levels-number.result in
    let within : i < length ls = omega arith in
    let more : take (i + 1) ls ≡ take i ls ++ x ∷ [] = take_more ls i x within ∙ ap (λ y. take i ls ++ y ∷ []) (sym c.index-levels-number.is) in
    let short : i ≤ length ls = omega arith in
    let counted : i ≡ length (map level_of (take i ls)) = sym (length-take-le i ls short) ∙ sym (length-map (take i ls) level_of) in
    c.in_ok-insert_level.ensures
    ∙ ap (λ ts. fold with_precedence_of (named_precedences c.levels.found) (map (precedence_ast i x.kind) (words_in (symbols_of ts)))) c.deref.ensures.value
    ∙ ap (λ ps. fold with_precedence_of ps (level_precedences i (level_of x))) c.levels.invariant
    ∙ sym (precedences_step (map level_of (take i ls)) (level_of x) i counted)
    ∙ sym (ap precedences_of (ap (map level_of) more ∙ map-append level_of (take i ls) (x ∷ [])))
