-- Where the lines of a text begin. A line ends with LF, CR LF or CR.
use Rattle.std.specs.Prelude.{ℕ, zero, suc, ◌+◌, Bool, false, not, ◌&&◌, ◌||◌, ◌==◌, List, [], ◌∷◌, ◌++◌, Option, None, Some, slice_get, if◌then◌else◌}

-- whether this byte is there
abbrev pub is_there : ℕ → Option ℕ → Bool
is_there b None = false
is_there b (Some c) = b == c

-- whether a line ends behind the byte at an offset
abbrev pub ends_line : List ℕ → ℕ → Bool
ends_line text a = is_there 10 (slice_get text a) || (is_there 13 (slice_get text a) && not (is_there 10 (slice_get text (a + 1))))

-- the beginnings of the lines that begin at one of the first n bytes, or behind the last of these
abbrev pub starts_upto : List ℕ → ℕ → List ℕ
starts_upto text zero = 0 ∷ []
starts_upto text (suc n) = if ends_line text n then starts_upto text n ++ suc n ∷ [] else starts_upto text n
