use Rattle.std.proofs.Common.{◌≡◌, ℕ, List, map, take}
use Rattle.std.specs.String.{string_bytes}
use Rattle.parse_trees.specs.ErrorTexts.{seen_as, part_text, AnswersNames}
use Rattle.parse_trees.proofs.error_texts.parts_of.Given as goal

abbrev pub invariant-pieces : goal.invariant-pieces
invariant-pieces g l = (names : ℕ → List ℕ) → AnswersNames g.T.StorageT.IndexStorage.number (goal.F-post g l.epp) names → map string_bytes l.parts.items ≡ map (part_text names (g.X.NonStreamingLexer.text l.lexer)) (map (seen_as g.T.StorageT.IndexStorage.number) (take l.i l.pieces))
