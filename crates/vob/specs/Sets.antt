-- Sets of tokens and of rules as bits.
use Rattle.std.specs.Prelude.{◌≡◌, ℕ, ◌<◌, ◌||◌, Bool, false, not, IsTrue, List, [], length, get_or, slice_index_or, slice_set}
use Rattle.vob.specs.Bits.{bitwise}
use Rattle.std.specs.List.{sum_by, count_by}

-- whether a number is in a set; past the end none is
abbrev pub is_set : List Bool → ℕ → Bool
is_set bits t = slice_index_or bits t false

-- whether it is in the set of the row A
abbrev pub is_set_in : List (List Bool) → ℕ → ℕ → Bool
is_set_in rows A t = is_set (get_or rows A []) t

-- how many numbers aren't in a set
abbrev pub missing : List Bool → ℕ
missing bits = count_by not bits

-- n sets of numbers below m
pub record AreRows (n m : ℕ) (rows : List (List Bool)) : Type 0 where
  pub count : length rows ≡ n
  pub width : (A : ℕ) → A < n → length (get_or rows A []) ≡ m

-- what contracts see of a set of tokens for each rule: how many tokens there are, and the rows
pub record SetRows : Type 0 where
  pub width : ℕ
  pub rows : List (List Bool)

-- how many bits of all the rows are clear
abbrev pub missing_in : List (List Bool) → ℕ
missing_in rows = sum_by missing rows

-- the row A after the numbers were joined to it
abbrev pub joined_to : List (List Bool) → ℕ → List Bool → List (List Bool)
joined_to rows A bits = slice_set rows A (bitwise (λ x y. x || y) (get_or rows A []) bits)

-- it has the numbers
abbrev pub HasAllOf : ℕ → List Bool → List (List Bool) → Type 0
HasAllOf A bits rows = (t : ℕ) → IsTrue (is_set bits t) → IsTrue (is_set_in rows A t)
