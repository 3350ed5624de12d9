use Rattle.parse_trees.specs.Lex.{token_by}
use Rattle.lrpar.proofs.NextTold.{InsideBelow}
use Rattle.lrpar.proofs.next_tokens.are_inside.Given as goal

abbrev pub invariant-lexemes : goal.invariant-lexemes
invariant-lexemes g l = InsideBelow l.end (token_by g.L.Lexeme.lex) l.lexemes l.index
