-- Lists of truth values.
use Rattle.std.specs.Prelude.{◌≡◌, ◌≢◌, ◌↔◌, ℕ, Bool, true, false, not, ◌||◌, List, [], ◌∷◌, suc, zero, length, slice_index_or, IsTrue}

-- the two lists item by item, as far as the shorter one goes
abbrev pub bitwise : (Bool → Bool → Bool) → List Bool → List Bool → List Bool
bitwise op [] ys = []
bitwise op (x ∷ xs) [] = []
bitwise op (x ∷ xs) (y ∷ ys) = op x y ∷ bitwise op xs ys

-- whether two truth values differ
abbrev pub differs : Bool → Bool → Bool
differs true y = not y
differs false y = y

-- how many items are true
abbrev pub count_true : List Bool → ℕ
count_true [] = zero
count_true (true ∷ xs) = suc (count_true xs)
count_true (false ∷ xs) = count_true xs

-- lists of one length are joined to a list in turn, and each join answers whether it changed the list
abbrev pub Joins : List Bool → List (List Bool) → List Bool → Type 0
Joins xs [] [] = Unit {0}
Joins xs [] (flag ∷ flags) = ⊥
Joins xs (ys ∷ yss) [] = ⊥
Joins xs (ys ∷ yss) (flag ∷ flags) =
    (length ys ≡ length xs) × (IsTrue flag ↔ (bitwise (λ x y. x || y) xs ys ≢ xs)) × Joins (bitwise (λ x y. x || y) xs ys) yss flags

-- two lists share an index at which both are true
abbrev pub Meets : List Bool → List Bool → Type 0
Meets xs ys = (i : ℕ) × IsTrue (slice_index_or xs i false) × IsTrue (slice_index_or ys i false)

-- where one list is true, the other is false
abbrev pub IsApart : List Bool → List Bool → Type 0
IsApart xs ys = (i : ℕ) → IsTrue (slice_index_or xs i false) → slice_index_or ys i false ≡ false

-- where the second list is true, the first is true too
abbrev pub HoldsAll : List Bool → List Bool → Type 0
HoldsAll xs ys = (i : ℕ) → IsTrue (slice_index_or ys i false) → IsTrue (slice_index_or xs i false)

-- at some index the second list is true, and the first is false
abbrev pub LacksSome : List Bool → List Bool → Type 0
LacksSome xs ys = (i : ℕ) × IsTrue (slice_index_or ys i false) × (slice_index_or xs i false ≡ false)
