-- The list of a lexer: its lexemes, or the first fault, and lexemes that no run takes.
use Rattle.std.specs.Prelude.{◌≡◌, ℕ, suc, ◌<◌, ◌≤◌, List, [], ◌∷◌, ◌++◌, map, Result, Ok, Err, slice_get, Some}
use Rattle.cfg_theory.specs.Grammar.{Grammar, end_token}
use Rattle.parse_trees.specs.Lex.{Lex}

-- the items that are lexemes
abbrev pub lexemes_of : {L E : Type 0} → List (Result L E) → List L
lexemes_of [] = []
lexemes_of (Ok x ∷ items) = x ∷ lexemes_of items
lexemes_of (Err e ∷ items) = lexemes_of items

-- each item is a lexeme
abbrev pub AreItems : {L E : Type 0} → List (Result L E) → List L → Type 0
AreItems items lexemes = items ≡ map Ok lexemes

-- the first item that is none
pub record IsFirstLexError {L E : Type 0} (items : List (Result L E)) (e : E) : Type 0 where
  pub before : List L
  pub after : List (Result L E)
  pub is : items ≡ map Ok before ++ Err e ∷ after

-- the lexeme at the index is of the end token, whose number is `end`, or of none of the grammar's
pub record IsOutsideAt {L : Type 0} (end : ℕ) (lex : L → Lex) (lexemes : List L) (k : ℕ) : Type 0 where
  pub lexeme : L
  pub at : slice_get lexemes k ≡ Some lexeme
  pub outside : end ≤ (lex lexeme).token

-- it starts before the one in front of it
pub record DecreasesAt {L : Type 0} (lex : L → Lex) (lexemes : List L) (k : ℕ) : Type 0 where
  pub index : ℕ
  pub behind : k ≡ suc index
  pub front : L
  pub lexeme : L
  pub front_at : slice_get lexemes index ≡ Some front
  pub at : slice_get lexemes k ≡ Some lexeme
  pub decreases : (lex lexeme).places.start < (lex front).places.start

-- neither
pub record IsGoodAt {L : Type 0} (end : ℕ) (lex : L → Lex) (lexemes : List L) (k : ℕ) : Type 0 where
  pub inside : IsOutsideAt end lex lexemes k → ⊥
  pub ascends : DecreasesAt lex lexemes k → ⊥

abbrev pub AreGoodBelow : {L : Type 0} → ℕ → (L → Lex) → List L → ℕ → Type 0
AreGoodBelow end lex lexemes k = (j : ℕ) → j < k → IsGoodAt end lex lexemes j

-- why lexemes aren't parsed, at the least index; the token is asked before the start
pub data Misfit : Type 0 where
  outside : ℕ → Misfit
  decreases : ℕ → Misfit

abbrev pub IsMisfit : {L : Type 0} → ℕ → (L → Lex) → List L → Misfit → Type 0
IsMisfit end lex lexemes (Misfit.outside k) = AreGoodBelow end lex lexemes k × IsOutsideAt end lex lexemes k
IsMisfit end lex lexemes (Misfit.decreases k) = AreGoodBelow end lex lexemes k × (IsOutsideAt end lex lexemes k → ⊥) × DecreasesAt lex lexemes k

-- lexemes that may be parsed: of the grammar's tokens other than the end, none starts before one that comes earlier, and none ends before it starts
pub record AreLexemes {L : Type 0} (G : Grammar) (lex : L → Lex) (lexemes : List L) : Type 0 where
  pub inside : (k : ℕ) (x : L) → slice_get lexemes k ≡ Some x → (lex x).token < end_token G
  pub ascend : (j k : ℕ) (x y : L) → j ≤ k → slice_get lexemes j ≡ Some x → slice_get lexemes k ≡ Some y → (lex x).places.start ≤ (lex y).places.start
  pub ordered : (k : ℕ) (x : L) → slice_get lexemes k ≡ Some x → (lex x).places.start ≤ (lex x).places.end
