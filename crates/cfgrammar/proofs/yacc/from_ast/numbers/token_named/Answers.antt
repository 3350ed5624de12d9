use Rattle.std.proofs.Common.{◌≡◌, ℕ, List, map, Contains, sym, ap, ◌∙◌, subst}
use Rattle.cfg_read.specs.SyntaxTexts.{WordText}
use Rattle.cfg_read.specs.AstModels.{named_span}
use Rattle.cfg_read.specs.WellFormedAst.{names_of_tokens}
use Rattle.cfgrammar.specs.FromAst.{index_in}
use Rattle.cfgrammar.proofs.FromAstLookups.{map_twice, key_text, found_place, some_of}
use Rattle.cfgrammar.proofs.FromAstNames.{same_some}
use Rattle.cfgrammar.proofs.yacc.from_ast.numbers.token_named.Goals as goal

pub unwrap-index-requires : goal.unwrap-index-requires
unwrap-index-requires g c =
    let es = c.tokens.result.now.entries in
    let q = c.args.name.now in
    let names : names_of_tokens c.args.ast.now ≡ map key_text es = ap (map (λ (w : WordText). w.text)) (sym c.tokens.ensures) ∙ map_twice named_span (λ (w : WordText). w.text) es in
    let at = c.get_index_of.ensures.index ∙ found_place es q (subst (λ (ns : List (List ℕ)). Contains ns q) names c.requires.known) in
    some_of _ at

pub returns : goal.returns
returns g c =
    let es = c.tokens.result.now.entries in
    let q = c.args.name.now in
    let names : names_of_tokens c.args.ast.now ≡ map key_text es = ap (map (λ (w : WordText). w.text)) (sym c.tokens.ensures) ∙ map_twice named_span (λ (w : WordText). w.text) es in
    let at = c.get_index_of.ensures.index ∙ found_place es q (subst (λ (ns : List (List ℕ)). Contains ns q) names c.requires.known) in
    let is : c.unwrap-index.result ≡ index_in (map key_text es) q = same_some _ _ (sym c.unwrap-index.ensures ∙ at) in
    c.index_of.ensures ∙ is ∙ ap (λ (ns : List (List ℕ)). index_in ns q) (sym names)
