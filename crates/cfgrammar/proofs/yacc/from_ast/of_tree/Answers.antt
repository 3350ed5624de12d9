use Rattle.std.proofs.Common.{◌≡◌, IfOk, sym, ◌∙◌, subst, arith}
use Rattle.cfg_numbered.specs.Value.{GrammarValue, IsGrammar}
use Rattle.cfgrammar.proofs.FromAstRests.{rules_stay, rules_stay_apart, tokens_stay, tokens_stay_apart, levels_stay}
use Rattle.cfgrammar.proofs.FromAstValues.{value_is, start_fits}
use Rattle.cfgrammar.proofs.FromAstWell.{made_well, apart_by, count_tokens}
use Rattle.cfgrammar.proofs.yacc.from_ast.of_tree.Goals as goal

pub info_of_text-requires : goal.info_of_text-requires
info_of_text-requires g c = (made_well g.S.IndexStorage.MAX c.args.implicit c.args.ast.now c.requires.sound c.requires.free c.requires.fits).fits.rules

pub start_prod-start-requires : goal.start_prod-start-requires
start_prod-start-requires g c = start_fits g.S.IndexStorage.MAX c.args.implicit c.args.ast.now c.requires.sound c.requires.free c.requires.fits

pub all-requires-clause-told : goal.all-requires-clause-told
all-requires-clause-told g c = c.deref.ensures.value ∙ c.in_ok-levels.ensures

pub all-requires-clause-rules : goal.all-requires-clause-rules
all-requires-clause-rules g c = (made_well g.S.IndexStorage.MAX c.args.implicit c.args.ast.now c.requires.sound c.requires.free c.requires.fits).fits.rules

pub all-requires-clause-tokens : goal.all-requires-clause-tokens
all-requires-clause-tokens g c =
    let most = (made_well g.S.IndexStorage.MAX c.args.implicit c.args.ast.now c.requires.sound c.requires.free c.requires.fits).fits.tokens in
    let count = count_tokens c.args.ast.now in
    omega (arith, most, count)

pub rules-requires : goal.rules-requires
rules-requires g c = rules_stay_apart c.args.ast.now _ c.in_ok-prods.ensures.rest c.args.implicit (apart_by c.args.ast.now c.requires.sound c.requires.free c.args.implicit)

pub tokens-requires-clause-apart : goal.tokens-requires-clause-apart
tokens-requires-clause-apart g c = tokens_stay_apart c.args.ast.now _ c.in_ok-prods.ensures.rest _ c.rules.ensures.rest c.requires.sound.tokens

pub tokens-requires-clause-told : goal.tokens-requires-clause-told
tokens-requires-clause-told g c = levels_stay c.args.ast.now _ c.in_ok-prods.ensures.rest _ c.rules.ensures.rest _ (c.deref-2.ensures.value ∙ c.in_ok-levels.ensures)

pub of_parts-requires : goal.of_parts-requires
of_parts-requires g c =
    let rules = c.in_ok-rules.ensures.rules ∙ rules_stay c.args.ast.now _ c.in_ok-prods.ensures.rest c.args.implicit in
    let tokens = c.in_ok-tokens.ensures ∙ tokens_stay c.args.ast.now _ c.in_ok-prods.ensures.rest _ c.rules.ensures.rest in
    let is = value_is g.S.IndexStorage.number c.args.implicit c.args.ast.now c.in_ok-rules.rules.entries c.in_ok-tokens.tokens.entries c.in_ok-prods.prods.items (g.S.IndexStorage.number c.start_prod-start.result.0) c.in_ok-kept.kept
    rules tokens c.in_ok-prods.ensures.productions c.in_ok-prods.ensures.facts c.start_prod-start.ensures c.in_ok-kept.ensures in
    subst (IsGrammar g.S.IndexStorage.MAX) (sym is) (made_well g.S.IndexStorage.MAX c.args.implicit c.args.ast.now c.requires.sound c.requires.free c.requires.fits)

pub returns : goal.returns
returns g c =
    let rules = c.in_ok-rules.ensures.rules ∙ rules_stay c.args.ast.now _ c.in_ok-prods.ensures.rest c.args.implicit in
    let tokens = c.in_ok-tokens.ensures ∙ tokens_stay c.args.ast.now _ c.in_ok-prods.ensures.rest _ c.rules.ensures.rest in
    let is = value_is g.S.IndexStorage.number c.args.implicit c.args.ast.now c.in_ok-rules.rules.entries c.in_ok-tokens.tokens.entries c.in_ok-prods.prods.items (g.S.IndexStorage.number c.start_prod-start.result.0) c.in_ok-kept.kept
    rules tokens c.in_ok-prods.ensures.productions c.in_ok-prods.ensures.facts c.start_prod-start.ensures c.in_ok-kept.ensures in
    subst (λ (v : GrammarValue). IfOk c.of_parts.result (λ g. g ≡ v)) is c.of_parts.ensures
