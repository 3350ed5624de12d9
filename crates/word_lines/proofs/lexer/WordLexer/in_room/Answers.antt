use Rattle.std.proofs.Common.{◌≡◌, List, Result, sym, subst}
use Rattle.std.proofs.lemmas.Result.{IfOk-weaker}
use Rattle.parse_trees.specs.Lexemes.{Misfit}
use Rattle.parse_trees.specs.Refusals.{HasMisfit}
use Rattle.word_lines.specs.Lexing.{LexedLine, lex_of}
use Rattle.word_lines.specs.declared.lexeme.WordLexeme.{WordLexeme}
use Rattle.word_lines.specs.declared.lexeme.WordLexError.{WordLexError}
use Rattle.word_lines.proofs.lexer.WordLexer.in_room.Goals as goal

pub returns-clause-not_refused : goal.returns-clause-not_refused
returns-clause-not_refused g c =
    let read = c.in_ok-read.read in
    let P : List (Result (WordLexeme g.row.S.Denot) WordLexError) → Type 0 = λ items. (m : Misfit) → HasMisfit c.args.grm.now.grammar (lex_of g.S.IndexStorage.number) items m → ⊥ in
    let weaker : (l : LexedLine g.row.S.Denot) → l.items ≡ read → P l.items = λ l e. subst P (sym e) c.in_ok-read.ensures.not_refused in
    IfOk-weaker c.of_read.result (λ l. l.items ≡ read) (λ l. P l.items) weaker c.of_read.ensures.items
