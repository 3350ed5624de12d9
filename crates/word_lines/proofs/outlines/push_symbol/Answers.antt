use Rattle.std.proofs.Common.{◌≡◌, ◌∙◌, ◌++◌, List, ℕ, Some, sym, ap, subst, refl}
use Rattle.std.specs.Prelude.{slice_get, OnOk}
use Rattle.parse_trees.specs.OutlineLines.{CanShowLeaf, CanShowSymbol, leaf_line, symbol_line}
use Rattle.parse_trees.specs.Outlines.{symbol_of}
use Rattle.parse_trees.proofs.OutlineLines.{some_leaf}
use Rattle.word_lines.specs.Lexing.{lex_of}
use Rattle.word_lines.proofs.outlines.push_symbol.Goals as goal

pub lexeme_at-requires : goal.lexeme_at-requires
lexeme_at-requires g c =
    let number = g.S.IndexStorage.number in
    let lex = lex_of number in
    let r = c.requires.can in
    let can = subst (λ s. CanShowSymbol c.args.shown.now lex c.args.line.now r.0 (symbol_of number s)) (sym c.symbol_at.ensures ∙ c.in-Leaf.is) r.2 in
    let some = some_leaf c.args.shown.now lex c.args.line.now r.0 (slice_get r.0 c.in-Leaf.number) can in
    (r.0, some.0, r.1, some.1)

pub push_lexeme-requires-clause-inside : goal.push_lexeme-requires-clause-inside
push_lexeme-requires-clause-inside g c =
    let number = g.S.IndexStorage.number in
    let lex = lex_of number in
    let r = c.requires.can in
    let can = subst (λ s. CanShowSymbol c.args.shown.now lex c.args.line.now r.0 (symbol_of number s)) (sym c.symbol_at.ensures ∙ c.in-Leaf.is) r.2 in
    (subst (CanShowLeaf c.args.shown.now lex c.args.line.now) (c.lexeme_at.ensures.lexeme r.0 r.1) can).token

pub push_lexeme-requires-clause-named : goal.push_lexeme-requires-clause-named
push_lexeme-requires-clause-named g c = c.requires.named c.in-Leaf.number c.lexeme_at.result c.lexeme_at.ensures.item

pub push_prod-requires : goal.push_prod-requires
push_prod-requires g c =
    let number = g.S.IndexStorage.number in
    let r = c.requires.can in
    subst (λ s. CanShowSymbol c.args.shown.now (lex_of number) c.args.line.now r.0 (symbol_of number s)) (sym c.symbol_at.ensures ∙ c.in-Prod.is) r.2

pub returns-in-Leaf : goal.returns-in-Leaf
returns-in-Leaf g c = λ lexemes are.
    let number = g.S.IndexStorage.number in
    let lex = lex_of number in
    let grm = c.args.shown.now in
    let line = c.args.line.now in
    let same = ap (λ s. symbol_line grm lex line lexemes c.args.visit.depth (symbol_of number s)) (sym c.symbol_at.ensures ∙ c.in-Leaf.is) ∙ ap (leaf_line grm lex line c.args.visit.depth) (c.lexeme_at.ensures.lexeme lexemes are) in
    subst (λ (l : List ℕ). OnOk c.push_lexeme.result (c.push_lexeme.new.text.items ≡ c.args.text.now.items ++ l)) (sym same) c.push_lexeme.ensures

pub returns-in-Prod : goal.returns-in-Prod
returns-in-Prod g c = λ lexemes are.
    let number = g.S.IndexStorage.number in
    let grm = c.args.shown.now in
    let same = ap (λ s. symbol_line grm (lex_of number) c.args.line.now lexemes c.args.visit.depth (symbol_of number s)) (sym c.symbol_at.ensures ∙ c.in-Prod.is) in
    subst (λ (l : List ℕ). OnOk c.push_prod.result (c.push_prod.new.text.items ≡ c.args.text.now.items ++ l)) (sym same) c.push_prod.ensures
