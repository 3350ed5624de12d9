-- Bytes of a grammar text, beside those that `Text` of cfg_base defines.
use Rattle.std.specs.Prelude.{ℕ, ◌+◌, ◌-◌, Bool, not, ◌&&◌, ◌||◌, ◌==◌, List, slice_range}
use Rattle.std.specs.List.{prefix_len, suffix_len, list_any}
use Rattle.std.specs.Str.{bytes_eq}
use Prim.Native.String.{String}
use lib.Chars.{codes}
use Rattle.cfg_base.specs.SpanModel.{SpanModel}
use Rattle.cfg_base.specs.Text.{is_white, is_letter, is_digit, is_line_feed}

-- space, tab, CR
abbrev pub is_blank : ℕ → Bool
is_blank b = b == 32 || b == 9 || b == 13

-- [A-Za-z_.]
abbrev pub is_name_start : ℕ → Bool
is_name_start b = is_letter b || b == 95 || b == 46

-- [A-Za-z0-9_.]
abbrev pub is_name_byte : ℕ → Bool
is_name_byte b = is_name_start b || is_digit b

-- [A-Za-z_-]
abbrev pub is_keyword_byte : ℕ → Bool
is_keyword_byte b = is_letter b || b == 95 || b == 45

-- ' or "
abbrev pub is_quote : ℕ → Bool
is_quote b = b == 39 || b == 34

-- not `\`
abbrev pub is_plain : ℕ → Bool
is_plain b = not (b == 92)

-- neither this quote nor LF
abbrev pub is_quoted_by : ℕ → ℕ → Bool
is_quoted_by quote b = not (b == quote) && not (b == 10)

-- whether a list of bytes is this word
abbrev pub is : List ℕ → String → Bool
is bytes word = bytes_eq bytes (codes word)

-- whether an LF stands from a on and before b
unfoldable pub holds_line_feed : List ℕ → ℕ → ℕ → Bool
holds_line_feed text a b = list_any is_line_feed (slice_range text a b)

-- what is left of the text from a to b without the white at its two ends
unfoldable pub trim_start : List ℕ → ℕ → ℕ → ℕ
trim_start text a b = a + prefix_len is_white (slice_range text a b)

unfoldable pub trim_end : List ℕ → ℕ → ℕ → ℕ
trim_end text a b = b - suffix_len is_white (slice_range text a b)

abbrev pub trimmed : List ℕ → ℕ → ℕ → SpanModel
trimmed text a b = record { start = trim_start text a b; end = trim_end text (trim_start text a b) b }
