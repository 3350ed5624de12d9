use Rattle.std.proofs.Common.{◌≡◌, ℕ, List, map, take}
use Rattle.std.specs.String.{string_bytes}
use Rattle.parse_trees.specs.Shown.{shown_lists}
use Rattle.parse_trees.specs.ErrorTexts.{sequence_text, AnswersNames}
use Rattle.parse_trees.proofs.error_texts.sequences_of.Given as goal

abbrev pub invariant-repairs : goal.invariant-repairs
invariant-repairs g l = (names : ℕ → List ℕ) → AnswersNames g.T.StorageT.IndexStorage.number (goal.F-post g l.epp) names → map string_bytes l.sequences.items ≡ map (sequence_text names (g.X.NonStreamingLexer.text l.lexer) g.T.LexemeT.Lexeme.lex) (shown_lists g.T.StorageT.IndexStorage.number (take l.i l.repairs))
