-- The words of a grammar text: what stands at an offset, and where it ends.
use Rattle.std.specs.Prelude.{ℕ, ◌+◌, ◌-◌, ◌^◌, Bool, not, ◌&&◌, ◌||◌, ◌==◌, nat_lt, List, length, Option, Some, None, slice_get, slice_range, if◌then◌else◌}
use Rattle.std.specs.List.{count_by}
use Rattle.std.specs.Str.Parse.{digits_value}
use Rattle.cfg_base.specs.declared.text.GapPart.{GapPart}
use Rattle.cfg_base.specs.declared.text.GapPart.TheVariants as gaps
use Rattle.cfg_read.specs.declared.yacc.parser.scan.TokenKind.{TokenKind}
use Rattle.cfg_read.specs.declared.yacc.parser.scan.TokenKind.TheVariants as tokens
use Rattle.cfg_read.specs.declared.yacc.parser.scan.StringKind.{StringKind}
use Rattle.cfg_read.specs.declared.yacc.parser.scan.StringKind.TheVariants as strings
use Rattle.cfg_base.specs.Text.{is_digit, is_in_line, stands, is_at, run_end, first_offset, comment_end}
use Rattle.cfg_read.specs.Bytes.{is_blank, is_name_start, is_name_byte, is_keyword_byte, is_quote, is_quoted_by, holds_line_feed}

abbrev pub line_comment_part : List ℕ → ℕ → Option ℕ → GapPart
line_comment_part text a None = gaps.Unclosed
line_comment_part text a (Some b) = if holds_line_feed text a b then gaps.NoPart else gaps.Part (b + 2)

-- What of a line gap stands there: a space, tab, CR, or a `/* */` without LF.
unfoldable pub line_gap_at : List ℕ → ℕ → GapPart
line_gap_at text a =
    if stands text a is_blank then gaps.Part (a + 1)
    else (if is_at text a 47 && is_at text (a + 1) 42 then line_comment_part text (a + 2) (comment_end text (a + 2))
    else gaps.NoPart)

-- A quoted token: a quote, one or more characters other than LF, and the first equal quote behind the
-- first of them, which may be a quote itself. The offset b is that of the second quote.
abbrev pub quoted_kind : ℕ → List ℕ → ℕ → TokenKind
quoted_kind quote text a =
    if stands text (a + 1) is_in_line && is_at text (run_end (is_quoted_by quote) text (a + 2)) quote
    then tokens.Quoted (run_end (is_quoted_by quote) text (a + 2))
    else tokens.OpenQuote

-- Signs. A break is LF, `//` or `/*`.
abbrev pub sign_kind : ℕ → List ℕ → ℕ → TokenKind
sign_kind b text a =
    if b == 37 then (if is_at text (a + 1) 37 then tokens.Separator else tokens.Percent)
    else (if b == 58 then tokens.Colon
    else (if b == 59 then tokens.Semicolon
    else (if b == 124 then tokens.Bar
    else (if b == 123 then tokens.Brace
    else (if b == 45 && is_at text (a + 1) 62 then tokens.Arrow
    else (if b == 10 || (b == 47 && (is_at text (a + 1) 47 || is_at text (a + 1) 42)) then tokens.Break
    else tokens.Other))))))

-- Names and numbers are the longest runs.
abbrev pub token_kind_of : Option ℕ → List ℕ → ℕ → TokenKind
token_kind_of None text a = tokens.End
token_kind_of (Some b) text a =
    if is_name_start b then tokens.Name (run_end is_name_byte text a)
    else (if is_digit b then tokens.Digits (run_end is_digit text a)
    else (if is_quote b then quoted_kind b text a
    else sign_kind b text a))

-- What stands at an offset, and where it ends: a name or a number, behind it; a quoted token, at its
-- second quote.
unfoldable pub token_kind_at : List ℕ → ℕ → TokenKind
token_kind_at text a = token_kind_of (slice_get text a) text a

-- The word of a declaration is the longest run of [A-Za-z_-] behind the `%`.
abbrev pub keyword_end : List ℕ → ℕ → ℕ
keyword_end text a = run_end is_keyword_byte text (a + 1)

abbrev pub keyword : List ℕ → ℕ → List ℕ
keyword text a = slice_range text (a + 1) (keyword_end text a)

-- The number that decimal digits write, where it is at most the largest `usize`.
unfoldable pub number_of : List ℕ → Option ℕ
number_of digits = let n = digits_value 10 digits in if nat_lt n (2 ^ 64) then Some n else None

-- A string ends at the first equal quote that no `\` stands before.
abbrev pub closes_string : ℕ → List ℕ → ℕ → Bool
closes_string quote text a = is_at text a quote && not (is_at text (a - 1) 92)

-- It can't hold CR, LF, or a `\` without a quote behind it.
abbrev pub breaks_string : List ℕ → ℕ → Bool
breaks_string text a = is_at text a 13 || is_at text a 10 || (is_at text a 92 && not (stands text (a + 1) is_quote))

abbrev pub stops_string : ℕ → List ℕ → ℕ → Bool
stops_string quote text a = closes_string quote text a || breaks_string text a

abbrev pub string_stop : ℕ → List ℕ → Option ℕ → StringKind
string_stop quote text None = strings.Broken (length text)
string_stop quote text (Some a) = if closes_string quote text a then strings.Closed a else strings.Broken a

abbrev pub string_of : Option ℕ → List ℕ → ℕ → StringKind
string_of None text a = strings.Broken a
string_of (Some quote) text a =
    if is_quote quote then string_stop quote text (first_offset (stops_string quote text) (a + 1) (length text))
    else strings.Broken a

-- The string that begins at an offset: where its second quote stands, or the offset at which it is none.
unfoldable pub string_at : List ℕ → ℕ → StringKind
string_at text a = string_of (slice_get text a) text a

-- A `:` that isn't next to another `:`.
abbrev pub is_lone_colon : List ℕ → ℕ → Bool
is_lone_colon text a = is_at text a 58 && not (is_at text (a + 1) 58) && not (is_at text (a - 1) 58)

-- where the first one from a on and before b stands
abbrev pub lone_colon : List ℕ → ℕ → ℕ → Option ℕ
lone_colon text a b = first_offset (is_lone_colon text) a b

-- how often a byte stands from a on and before b
unfoldable pub count_between : ℕ → List ℕ → ℕ → ℕ → ℕ
count_between byte text a b = count_by (λ c. c == byte) (slice_range text a b)

-- A `}` behind as many `{` as `}`, counted from a on.
abbrev pub is_action_end : List ℕ → ℕ → ℕ → Bool
is_action_end text a b = is_at text b 125 && (count_between 123 text a b == count_between 125 text a b)

-- Where the `}` of the action stands whose `{` is right before a.
abbrev pub action_end : List ℕ → ℕ → Option ℕ
action_end text a = first_offset (is_action_end text a) a (length text)
