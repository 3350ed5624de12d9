-- The places of offsets: lines, and columns in units of UTF-16 or in bytes.
use Rattle.std.specs.Prelude.{◌≡◌, ℕ, ◌+◌, ◌*◌, ◌<◌, ◌≤◌, Bool, true, ◌||◌, Some, List, length, min, take, get_or, slice_get, nat_le, nat_lt, if◌then◌else◌}
use Rattle.std.specs.List.{sum_by}
use Rattle.language_server.specs.Lines.{starts_upto}
use Rattle.language_server.specs.declared.answers.Range.{Range}
use Rattle.language_server.specs.declared.places.Encoding.{Encoding}
use Rattle.language_server.specs.declared.places.Encoding.TheVariants.{Utf16, Utf8}
use Rattle.language_server.specs.declared.places.Lines.{Lines}
use Rattle.language_server.specs.declared.places.Position.{Position}

-- how many units the character has that this byte begins: none of a byte within a character
abbrev pub units_of : Encoding → ℕ → ℕ
units_of Utf8 b = 1
units_of Utf16 b = if nat_lt b 128 then 1 else (if nat_lt b 192 then 0 else (if nat_lt b 240 then 1 else 2))

abbrev pub units : Encoding → List ℕ → ℕ
units e text = sum_by (units_of e) text

-- a mark has how many units of UTF-16 come before its byte: the k-th is of byte k * 1024
abbrev pub AreMarks : List ℕ → List ℕ → Type 0
AreMarks text marks = (k : ℕ) → k < length marks → get_or marks k 0 ≡ units Utf16 (take (k * 1024) text)

-- the lines are those of the text
pub record AreLinesOf (text : List ℕ) (l : Lines) : Type 0 where
  pub starts : l.starts.items ≡ starts_upto text (length text)
  pub marks : AreMarks text l.marks.items

-- where the line of a number begins
abbrev pub start_of : List ℕ → ℕ → ℕ
start_of text line = get_or (starts_upto text (length text)) line 0

-- the place of an offset: the last line that begins there or before it, and how many units of that line come before it
pub record IsPlaceOf (e : Encoding) (text : List ℕ) (offset : ℕ) (p : Position) : Type 0 where
  pub within : p.line < length (starts_upto text (length text))
  pub begins : start_of text p.line ≤ offset
  pub last : (line : ℕ) → p.line < line → line < length (starts_upto text (length text)) → offset < start_of text line
  pub column : units e (take (start_of text p.line) text) + p.character ≡ units e (take offset text)

-- from the place of one offset to that of another: of the text's end for one past it
pub record IsRangeOf (e : Encoding) (text : List ℕ) (from to : ℕ) (r : Range) : Type 0 where
  pub start_is : IsPlaceOf e text (min from (length text)) r.start
  pub end_is : IsPlaceOf e text (min to (length text)) r.end

-- whether a byte isn't within a character
abbrev pub begins_character : ℕ → Bool
begins_character b = nat_lt b 128 || nat_le 192 b

-- between two characters, and not between the CR and the LF that end a line
pub record IsBetween (text : List ℕ) (offset : ℕ) : Type 0 where
  pub character : (b : ℕ) → slice_get text offset ≡ Some b → begins_character b ≡ true
  pub line_end : (k : ℕ) → k + 1 ≡ offset → slice_get text k ≡ Some 13 → slice_get text offset ≡ Some 10 → ⊥

-- a number of units behind an offset, on its line, and between two characters
pub record IsBehind (e : Encoding) (text : List ℕ) (start count offset : ℕ) : Type 0 where
  pub within : offset ≤ length text
  pub order : start ≤ offset
  pub column : units e (take start text) + count ≡ units e (take offset text)
  pub character : (b : ℕ) → slice_get text offset ≡ Some b → begins_character b ≡ true
  pub line : (k : ℕ) → start ≤ k → k < offset → (slice_get text k ≡ Some 10 → ⊥) × (slice_get text k ≡ Some 13 → ⊥)
