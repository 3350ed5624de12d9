use Rattle.std.proofs.Common.{ℕ, length, subst, ◌∙◌, arith}
use Rattle.parse_trees.specs.Lexemes.{AreGoodBelow, IsGoodAt}
use Rattle.parse_trees.specs.LexemeViews.{IsOrderedAt}
use Rattle.parse_trees.proofs.LexemeLists.{are_lexemes, with_next}
use Rattle.parse_trees.proofs.lexemes.misfit_of.Goals as goal

pub lexemes-preserved : goal.lexemes-preserved
lexemes-preserved g c = with_next (λ (j : ℕ). IsGoodAt c.to_usize-end.result g.L.Lexeme.lex c.args.lexemes.now j × IsOrderedAt g.L.Lexeme.lex c.args.lexemes.now j) c.lexemes.index c.lexemes.invariant c.in_default.ensures

pub returns : goal.returns
returns g c =
    let lex = g.L.Lexeme.lex in
    let xs = c.args.lexemes.now in
    let end = c.to_usize-end.ensures.value ∙ c.eof_token_idx.ensures.value in
    are_lexemes c.args.grm.now.grammar lex xs
    (subst (λ (n : ℕ). AreGoodBelow n lex xs (length xs)) end (λ j lt. (c.lexemes.invariant j (omega (arith, lt, c.lexemes-test.false))).0))
    (λ j lt. (c.lexemes.invariant j (omega (arith, lt, c.lexemes-test.false))).1)
