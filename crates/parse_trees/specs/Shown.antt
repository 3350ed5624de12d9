-- Sequences of repairs as they are told: with the lexemes that they delete or keep.
use Rattle.std.specs.Prelude.{◌≡◌, ℕ, List, [], ◌∷◌, map, drop, Option, Some, None, Vec}
use Rattle.std.specs.declared.alloc.Global.{Global}
use Rattle.lr_theory.specs.Repair.{Edit, insert, delete, keep}
use Rattle.parse_trees.specs.declared.parse_repair.ParseRepair.{ParseRepair}
use Rattle.parse_trees.specs.declared.parse_repair.ParseRepair.TheVariants as repairs

-- an edit with the lexeme that it deletes or keeps
pub data ShownEdit (L : Type 0) : Type 0 where
  inserted : ℕ → ShownEdit L
  deleted : L → ShownEdit L
  shifted : L → ShownEdit L

-- what a sequence does to these lexemes, up to an edit that wants a lexeme where none is left
abbrev pub shown : {L : Type 0} → List Edit → List L → List (ShownEdit L)
shown [] xs = []
shown (insert t ∷ es) xs = inserted t ∷ shown es xs
shown (delete ∷ es) [] = []
shown (delete ∷ es) (x ∷ xs) = deleted x ∷ shown es xs
shown (keep ∷ es) [] = []
shown (keep ∷ es) (x ∷ xs) = shifted x ∷ shown es xs

-- what a repair that is told says
abbrev pub shown_of : {S L : Type 0} → (S → ℕ) → ParseRepair L S → ShownEdit L
shown_of number (repairs.Insert t) = inserted (number t.0)
shown_of number (repairs.Delete x) = deleted x
shown_of number (repairs.Shift x) = shifted x

abbrev pub shown_lists : {S L : Type 0} → (S → ℕ) → List (Vec (ParseRepair L S) Global) → List (List (ShownEdit L))
shown_lists number rs = map (λ r. map (shown_of number) r.items) rs

-- what the first edit of a sequence tells: what is shown of it, and the index behind it, or that nothing more is shown
abbrev pub ShowsStep : {S L : Type 0} → (S → ℕ) → Edit → ℕ → List L → Option (ParseRepair L S × ℕ) → Type 0
ShowsStep number e index lexemes None = (es : List Edit) → shown (e ∷ es) (drop index lexemes) ≡ []
ShowsStep number e index lexemes (Some (r, next)) = (es : List Edit) → shown (e ∷ es) (drop index lexemes) ≡ shown_of number r ∷ shown es (drop next lexemes)
