-- Places in a source, and the parts of it between them. A place inside a character counts as the character's first byte.
use Rattle.std.specs.Prelude.{ℕ, zero, suc, ◌-◌, ◌&&◌, ◌++◌, ◌∷◌, List, map, min, length, slice_index, slice_range, nat_le, nat_lt, if◌then◌else◌, codes, Option, Some, None, chars, false}
use Rattle.std.specs.Fmt.{decimal, is_char_start}
use Rattle.unicode_width.specs.Width.{str_width}
use Rattle.cfg_base.specs.SpanModel.{SpanModel}
use Rattle.cfg_base.specs.Text.{is_at, line_end}
use Rattle.cfg_base.specs.Newlines.{line_of, column_of, newline_offsets}

-- a source, and its path as messages tell it
pub record Source : Type 0 where
  pub text : List ℕ
  pub path : List ℕ

-- the first byte of the character that an offset within the text lies in
unfoldable pub char_start : List ℕ → ℕ → ℕ
char_start text zero = 0
char_start text (suc b) = if is_char_start (slice_index text (suc b)) then suc b else char_start text b

-- the text from one offset up to another
abbrev pub part : List ℕ → ℕ → ℕ → List ℕ
part text a b = slice_range text (char_start text a) (char_start text b)

-- the columns that bytes take
abbrev pub columns : List ℕ → ℕ
columns bytes = str_width false (chars bytes)

-- a span within a text: an offset past the end counts as the end
abbrev pub within : List ℕ → SpanModel → SpanModel
within text span = record { start = min span.start (length text); end = min span.end (length text) }

-- where what is shown of the line ends that begins at a: at its LF, a CR right before which isn't shown, or at the text's end
abbrev pub shown_end : List ℕ → ℕ → ℕ
shown_end text a = if nat_lt a (line_end text a) && is_at text (line_end text a) 10 && is_at text (line_end text a - 1) 13 then line_end text a - 1 else line_end text a

-- the first bytes of the lines that begin at a and up to b
abbrev pub line_starts : List ℕ → ℕ → ℕ → List ℕ
line_starts text a b = a ∷ map suc (newline_offsets a (slice_range text a b))

-- the line and the column of an offset; past the end of the text (0, 0)
abbrev pub place_of : List ℕ → ℕ → ℕ × ℕ
place_of text b = if nat_le b (length text) then (line_of text b, column_of text text b) else (0, 0)

-- `MSG at PATH:LINE:COL`, or `MSG in PATH` without a span
abbrev pub located_text : Source → List ℕ → Option SpanModel → List ℕ
located_text source message None = message ++ codes " in " ++ source.path
located_text source message (Some span) =
    message ++ codes " at " ++ source.path ++ codes ":" ++ decimal (place_of source.text span.start).0 ++ codes ":" ++ decimal (place_of source.text span.start).1
