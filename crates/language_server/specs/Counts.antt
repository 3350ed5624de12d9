-- How many diagnostics a document gets.
use Rattle.std.specs.Prelude.{ℕ, cond, nat_le}

-- one says how many there are, where not all are shown
abbrev pub count_notes : ℕ → ℕ
count_notes n = cond (nat_le n 1000) 0 1
