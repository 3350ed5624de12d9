-- The parts before the rest are lexed, and no lexeme is of the end token.
use Rattle.std.proofs.Common.{length, IsUtf8}
use Rattle.std.specs.List.{AllByRecursion}
use Rattle.word_lines.specs.Lexing.{IsInside}
use Rattle.word_lines.proofs.LexedParts.{LexedTo}
use Rattle.word_lines.proofs.lexer.lex_line.Given as goal

abbrev pub invariant-parts : goal.invariant-parts
invariant-parts g l = IsUtf8 l.rest × LexedTo g.S.IndexStorage.of_number l.grm l.line l.rest l.items.items × AllByRecursion (IsInside g.S.IndexStorage.number l.grm.grammar) l.items.items

abbrev pub decreases-parts : goal.decreases-parts
decreases-parts g l = length l.rest
