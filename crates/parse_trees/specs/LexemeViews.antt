-- What is told of a lexer's list.
use Rattle.std.specs.Prelude.{◌≡◌, ℕ, List, Result, Ok, Err, Option, None, Some, slice_get, ◌≤◌}
use Rattle.cfg_theory.specs.Grammar.{Grammar, end_token}
use Rattle.parse_trees.specs.Lex.{Lex}
use Rattle.parse_trees.specs.Lexemes.{AreItems, IsFirstLexError, IsOutsideAt, DecreasesAt, IsGoodAt, Misfit, IsMisfit, AreLexemes}
use Rattle.parse_trees.specs.declared.lexemes.LexemeMisfit.{LexemeMisfit}
use Rattle.parse_trees.specs.declared.lexemes.LexemeMisfit.TheVariants as misfits

abbrev pub ReadsAs : {L E : Type 0} → List (Result L E) → Result (List L) E → Type 0
ReadsAs items (Ok lexemes) = AreItems items lexemes
ReadsAs items (Err e) = IsFirstLexError items e

-- it ends no earlier than it starts
abbrev pub IsOrderedAt : {L : Type 0} → (L → Lex) → List L → ℕ → Type 0
IsOrderedAt {L} lex lexemes k = (x : L) → slice_get lexemes k ≡ Some x → (lex x).places.start ≤ (lex x).places.end

-- what is wrong with the lexeme at an index, the token first
abbrev pub TellsAt : {L : Type 0} → ℕ → (L → Lex) → List L → ℕ → Option LexemeMisfit → Type 0
TellsAt end lex lexemes k None = IsGoodAt end lex lexemes k × IsOrderedAt lex lexemes k
TellsAt end lex lexemes k (Some (misfits.Outside j)) = (j ≡ k) × IsOutsideAt end lex lexemes k
TellsAt end lex lexemes k (Some (misfits.Decreases j)) = (j ≡ k) × (IsOutsideAt end lex lexemes k → ⊥) × DecreasesAt lex lexemes k

abbrev pub misfit_of : LexemeMisfit → Misfit
misfit_of (misfits.Outside k) = Misfit.outside k
misfit_of (misfits.Decreases k) = Misfit.decreases k

-- a run takes the lexemes, or the first that doesn't fit is told
abbrev pub TellsLexemeMisfit : {L : Type 0} → Grammar → (L → Lex) → List L → Option LexemeMisfit → Type 0
TellsLexemeMisfit G lex lexemes None = AreLexemes G lex lexemes
TellsLexemeMisfit G lex lexemes (Some m) = IsMisfit (end_token G) lex lexemes (misfit_of m)
