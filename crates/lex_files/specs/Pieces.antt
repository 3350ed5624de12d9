-- Pieces of a line.
use Rattle.std.specs.Prelude.{ℕ, ◌-◌, ◌==◌, Bool, false, not, ◌||◌, if◌then◌else◌, List, [], ◌∷◌, length, take, drop, codes, Option, None, Some, nat_lt}
use Rattle.std.specs.Char.{is_ascii_whitespace}
use Rattle.std.specs.List.{prefix_len, suffix_len, position_or_len, before_first, after_first, starts_with}

-- without the white at its end
abbrev pub trimmed : List ℕ → List ℕ
trimmed bs = take (length bs - suffix_len is_ascii_whitespace bs) bs

-- how many bytes are in front of the last run that isn't white
abbrev pub name_start : List ℕ → ℕ
name_start bs = length bs - suffix_len (λ b. not (is_ascii_whitespace b)) bs

-- up to the last white byte, with it
abbrev pub before_name : List ℕ → List ℕ
before_name bs = take (name_start bs) bs

-- what is behind it
abbrev pub name_part : List ℕ → List ℕ
name_part bs = drop (name_start bs) bs

-- what is behind a byte at the front
abbrev pub after_byte : ℕ → List ℕ → Option (List ℕ)
after_byte c [] = None
after_byte c (b ∷ bs) = if b == c then Some bs else None

-- what is in front of the first of these bytes, and what is behind it
abbrev pub cut_at : ℕ → List ℕ → Option (List ℕ × List ℕ)
cut_at c bs = if nat_lt (position_or_len (λ b. b == c) bs) (length bs) then Some (before_first (λ b. b == c) bs, after_first (λ b. b == c) bs) else None

abbrev pub without_indent : List ℕ → List ℕ
without_indent bs = drop (prefix_len is_ascii_whitespace bs) bs

-- an empty line, or a comment
abbrev pub is_gap : List ℕ → Bool
is_gap bs = (length (without_indent bs) == 0) || starts_with (λ a b. a == b) (without_indent bs) (codes "//")

abbrev pub begins_white : List ℕ → Bool
begins_white [] = false
begins_white (b ∷ bs) = is_ascii_whitespace b
