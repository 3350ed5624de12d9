-- An index in a row whose numbers rise.
use Rattle.std.specs.Prelude.{ℕ, ◌<◌, ◌≤◌, List, length, get_or}

-- the numbers before the index are below n, and from it on none is
pub record IsCursor (row : List (ℕ × ℕ)) (index n : ℕ) : Type 0 where
  pub before : (i : ℕ) (d : ℕ × ℕ) → i < index → i < length row → (get_or row i d).0 < n
  pub rest : (i : ℕ) (d : ℕ × ℕ) → index ≤ i → i < length row → n ≤ (get_or row i d).0
