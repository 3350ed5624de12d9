-- A text as its bytes: classes of bytes, longest runs, the first offset that passes a test, and gaps.
use Rattle.std.specs.Prelude.{ℕ, zero, suc, ◌+◌, ◌-◌, ◌<◌, ◌≤◌, Bool, false, not, ◌&&◌, ◌||◌, ◌==◌, nat_le, List, drop, length, Option, Some, None, slice_get, if◌then◌else◌}
use Rattle.std.specs.List.{prefix_len}
use Rattle.std.specs.Str.{IsCharBoundary}
use Rattle.cfg_base.specs.declared.text.GapPart.{GapPart}
use Rattle.cfg_base.specs.declared.text.GapPart.TheVariants as gaps

-- space, tab, CR, LF
abbrev pub is_white : ℕ → Bool
is_white b = b == 32 || b == 9 || b == 13 || b == 10

-- [A-Za-z]
abbrev pub is_letter : ℕ → Bool
is_letter b = (nat_le 65 b && nat_le b 90) || (nat_le 97 b && nat_le b 122)

-- [0-9]
abbrev pub is_digit : ℕ → Bool
is_digit b = nat_le 48 b && nat_le b 57

abbrev pub is_line_feed : ℕ → Bool
is_line_feed b = b == 10

-- any byte but LF
abbrev pub is_in_line : ℕ → Bool
is_in_line b = not (b == 10)

-- whether a byte is there, and passes
abbrev pub passes : (ℕ → Bool) → Option ℕ → Bool
passes p None = false
passes p (Some b) = p b

-- whether the byte at a passes
abbrev pub stands : List ℕ → ℕ → (ℕ → Bool) → Bool
stands text a p = passes p (slice_get text a)

-- whether the byte b stands at a
abbrev pub is_at : List ℕ → ℕ → ℕ → Bool
is_at text a b = stands text a (λ c. c == b)

-- where the longest run of bytes that pass, from a on, ends
unfoldable pub run_end : (ℕ → Bool) → List ℕ → ℕ → ℕ
run_end p text a = a + prefix_len p (drop a text)

-- where the line of a ends: at the LF, or at the text's end
abbrev pub line_end : List ℕ → ℕ → ℕ
line_end text a = run_end is_in_line text a

-- the first of the n offsets from a on that passes
abbrev pub first_among : (ℕ → Bool) → ℕ → ℕ → Option ℕ
first_among p zero a = None
first_among p (suc n) a = if p a then Some a else first_among p n (a + 1)

-- the first offset from a on and before b that passes
unfoldable pub first_offset : (ℕ → Bool) → ℕ → ℕ → Option ℕ
first_offset p a b = first_among p (b - a) a

-- Gaps. A comment is `//` up to the next LF or the end, or `/*` up to the first `*/` behind it.

-- whether `*/` stands at a
abbrev pub is_comment_end : List ℕ → ℕ → Bool
is_comment_end text a = is_at text a 42 && is_at text (a + 1) 47

-- where the first `*/` from a on stands
abbrev pub comment_end : List ℕ → ℕ → Option ℕ
comment_end text a = first_offset (is_comment_end text) a (length text)

-- a comment whose `*/` stands at this offset, if it has one
abbrev pub comment_part : Option ℕ → GapPart
comment_part None = gaps.Unclosed
comment_part (Some b) = gaps.Part (b + 2)

-- What of a gap stands at a: one white byte or one comment, with its end; a `/*` without `*/`; or neither.
unfoldable pub gap_at : List ℕ → ℕ → GapPart
gap_at text a =
    if stands text a is_white then gaps.Part (a + 1)
    else (if not (is_at text a 47) then gaps.NoPart
    else (if is_at text (a + 1) 47 then gaps.Part (run_end is_in_line text (a + 2))
    else (if is_at text (a + 1) 42 then comment_part (comment_end text (a + 2))
    else gaps.NoPart)))

-- from a up to b lies a part of the text that isn't empty
pub record FitsBetween (text : List ℕ) (a b : ℕ) : Type 0 where
  pub more : a < b
  pub within : b ≤ length text

-- and it can be cut out
pub record FitsWord (text : List ℕ) (a b : ℕ) : Type 0 where
  pub more : a < b
  pub within : b ≤ length text
  pub start : IsCharBoundary text a
  pub end : IsCharBoundary text b

-- a part of a gap at a isn't empty, and lies within the text
abbrev pub FitsGap : List ℕ → ℕ → GapPart → Type 0
FitsGap text a (gaps.Part b) = FitsBetween text a b
FitsGap text a gaps.Unclosed = Unit {0}
FitsGap text a gaps.NoPart = Unit {0}
