use Rattle.std.proofs.Common.{ℕ, ◌<◌}
use Rattle.parse_trees.specs.Lexemes.{IsGoodAt}
use Rattle.parse_trees.specs.LexemeViews.{IsOrderedAt}
use Rattle.parse_trees.proofs.lexemes.misfit_of.Given as goal

abbrev pub invariant-lexemes : goal.invariant-lexemes
invariant-lexemes g l = (j : ℕ) → j < l.index → IsGoodAt l.end g.L.Lexeme.lex l.lexemes j × IsOrderedAt g.L.Lexeme.lex l.lexemes j
