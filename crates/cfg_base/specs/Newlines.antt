-- The lines and columns of a text, given as its bytes.
use Rattle.std.specs.Prelude.{ℕ, suc, ◌+◌, ◌-◌, if◌then◌else◌, List, [], ◌∷◌, ◌++◌, length, take, map, count_by, nat_le}
use Rattle.std.specs.Char.{len_utf8}
use Rattle.std.specs.List.{suffix_len}
use Rattle.std.specs.Str.{chars}
use Rattle.cfg_base.specs.Text.{is_line_feed, is_in_line}

-- the line of byte b: one more than the LFs among the first b bytes
abbrev pub line_of : List ℕ → ℕ → ℕ
line_of text b = count_by is_line_feed (take b text) + 1

-- the first byte of that line: after the last LF among the first b bytes
abbrev pub line_start : List ℕ → ℕ → ℕ
line_start text b = b - suffix_len is_in_line (take b text)

-- how many of these characters end within their first n bytes
abbrev pub ended_among : List ℕ → ℕ → ℕ
ended_among [] n = 0
ended_among (c ∷ cs) n = if nat_le (len_utf8 c) n then suc (ended_among cs (n - len_utf8 c)) else 0

-- how many characters of a text end at or before byte b
abbrev pub chars_ended : List ℕ → ℕ → ℕ
chars_ended text b = ended_among (chars text) b

-- the column of byte b, where the lines are those of `text` and the characters those of `src`, which is
-- mostly the same text: one more than the characters of its line that end at or before b
abbrev pub column_of : List ℕ → List ℕ → ℕ → ℕ
column_of text src b = chars_ended src b - chars_ended src (line_start text b) + 1

-- the offsets of the LFs of a text that begins at offset p
abbrev pub newline_offsets : ℕ → List ℕ → List ℕ
newline_offsets p [] = []
newline_offsets p (c ∷ cs) = if is_line_feed c then p ∷ newline_offsets (suc p) cs else newline_offsets (suc p) cs

-- what offsets and lines need of a text: where its LFs are, in order, and how many bytes it has
pub record Newlines : Type 0 where
  pub offsets : List ℕ
  pub bytes : ℕ

abbrev pub newlines_of : List ℕ → Newlines
newlines_of text = record { offsets = newline_offsets 0 text; bytes = length text }

-- of one text followed by another
abbrev pub joined : Newlines → Newlines → Newlines
joined a b = record { offsets = a.offsets ++ map (λ p. a.bytes + p) b.offsets; bytes = a.bytes + b.bytes }
