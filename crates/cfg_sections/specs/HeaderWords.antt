-- The words of a section: what stands at an offset, and where it ends.
use Rattle.std.specs.Prelude.{ℕ, ◌+◌, ◌≤◌, Bool, not, ◌&&◌, ◌||◌, ◌==◌, false, true, List, length, Option, Some, None, slice_get, if◌then◌else◌}
use Rattle.cfg_sections.specs.declared.header.scan.TokenKind.{TokenKind}
use Rattle.cfg_sections.specs.declared.header.scan.TokenKind.TheVariants as tokens
use Rattle.cfg_sections.specs.declared.header.scan.PathShape.{PathShape}
use Rattle.cfg_sections.specs.declared.header.scan.PathShape.TheVariants as paths
use Rattle.cfg_base.specs.declared.text.GapPart.{GapPart}
use Rattle.cfg_base.specs.declared.text.GapPart.TheVariants as gaps
use Rattle.cfg_base.specs.Text.{is_letter, is_digit, is_at, run_end, gap_at, FitsBetween, FitsWord}

-- [A-Za-z_], behind the first letter of a key
abbrev pub is_key_byte : ℕ → Bool
is_key_byte b = is_letter b || b == 95

-- [A-Za-z0-9_], behind the first of a word
abbrev pub is_word_byte : ℕ → Bool
is_word_byte b = is_key_byte b || is_digit b

-- no quote
abbrev pub is_in_text : ℕ → Bool
is_in_text b = not (b == 34)

-- where a gap's part ends, if there is one; a `/*` without `*/` is none
abbrev pub end_of_part : GapPart → Option ℕ
end_of_part (gaps.Part b) = Some b
end_of_part gaps.Unclosed = None
end_of_part gaps.NoPart = None

-- where the white or the comment that begins at a ends
unfoldable pub gap_part : List ℕ → ℕ → Option ℕ
gap_part text a = end_of_part (gap_at text a)

-- the token that a byte begins, if there is a byte
abbrev pub token_of : Option ℕ → TokenKind
token_of None = tokens.Other
token_of (Some b) =
    if is_letter b then tokens.Letter
    else (if is_digit b then tokens.Digit
    else (if b == 95 then tokens.Underscore
    else (if b == 34 then tokens.Quote
    else (if b == 33 then tokens.Exclamation
    else (if b == 123 then tokens.OpenBrace
    else (if b == 125 then tokens.CloseBrace
    else (if b == 91 then tokens.OpenBracket
    else (if b == 93 then tokens.CloseBracket
    else (if b == 40 then tokens.OpenParen
    else (if b == 41 then tokens.CloseParen
    else (if b == 44 then tokens.Comma
    else (if b == 58 then tokens.Colon
    else tokens.Other))))))))))))

-- what begins at an offset
unfoldable pub token_at : List ℕ → ℕ → TokenKind
token_at text a = token_of (slice_get text a)

-- [A-Za-z_]
abbrev pub begins_word : TokenKind → Bool
begins_word tokens.Letter = true
begins_word tokens.Underscore = true
begins_word _ = false

-- whether `::` stands at a
abbrev pub colons_at : List ℕ → ℕ → Bool
colons_at text a = is_at text a 58 && is_at text (a + 1) 58

-- a path whose first word ends at b
abbrev pub path_on : List ℕ → ℕ → PathShape
path_on text b =
    if not (colons_at text b) then paths.Alone b
    else (if begins_word (token_at text (b + 2)) then paths.Within b (run_end is_word_byte text (b + 2))
    else paths.Unfinished b)

-- a word, or one word within another with `::` between
unfoldable pub path_at : List ℕ → ℕ → PathShape
path_at text a = if not (begins_word (token_at text a)) then paths.NoPath else path_on text (run_end is_word_byte text a)

-- what is known of where a gap's part lies, and of a token and a path
abbrev pub FitsPart : List ℕ → ℕ → Option ℕ → Type 0
FitsPart text a None = Unit {0}
FitsPart text a (Some b) = FitsBetween text a b

abbrev pub FitsToken : List ℕ → ℕ → TokenKind → Type 0
FitsToken text a tokens.Other = Unit {0}
FitsToken text a _ = FitsWord text a (a + 1)

abbrev pub FitsPath : List ℕ → ℕ → PathShape → Type 0
FitsPath text a (paths.Alone b) = FitsWord text a b
FitsPath text a (paths.Within b c) = FitsWord text a b × FitsWord text (b + 2) c
FitsPath text a (paths.Unfinished b) = FitsWord text a b × (b + 2 ≤ length text)
FitsPath text a paths.NoPath = Unit {0}
