-- How many bytes the lines of a text take up.
use Rattle.std.proofs.Common.{◌≡◌, ℕ, suc, ◌<◌, ◌+◌, Bool, true, false, cond, List, [], ◌∷◌, length, drop, get_or, refl, sym, ap, ◌∙◌, arith}
use Rattle.std.proofs.lemmas.List.{at_drop_more}
use Rattle.std.specs.List.{slice_split, onto_first}

-- each line with the byte behind it
abbrev pub room_of : List (List ℕ) → ℕ
room_of [] = 0
room_of (line ∷ lines) = length line + 1 + room_of lines

room_of-onto_first : (x : ℕ) (lines : List (List ℕ)) → 0 < room_of lines → room_of (onto_first x lines) ≡ room_of lines + 1
room_of-onto_first x [] h = absurd (omega arith)
room_of-onto_first x (line ∷ lines) h = omega arith

room_of-cond : (b : Bool) (x n : ℕ) (lines : List (List ℕ)) → room_of lines ≡ n + 1 → room_of (cond b ([] ∷ lines) (onto_first x lines)) ≡ suc n + 1
room_of-cond true x n lines h = omega (arith, h)
room_of-cond false x n lines h = room_of-onto_first x lines (omega (arith, h)) ∙ omega (arith, h)

pub room_of-split : (p : ℕ → Bool) (text : List ℕ) → room_of (slice_split p text) ≡ length text + 1
room_of-split p [] = refl
room_of-split p (x ∷ xs) = room_of-cond (p x) x (length xs) (slice_split p xs) (room_of-split p xs)

-- what is left behind a line
pub room_next : (lines : List (List ℕ)) (k : ℕ) (line : List ℕ) → (k < length lines) × (line ≡ get_or lines k line) → room_of (drop k lines) ≡ length line + 1 + room_of (drop (k + 1) lines)
room_next lines k line turn = at_drop_more room_of lines k line turn.0 ∙ ap (λ l. room_of (l ∷ drop (k + 1) lines)) (sym turn.1)
