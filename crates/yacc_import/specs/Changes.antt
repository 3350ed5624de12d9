-- What notes make of a source, byte by byte. Each byte of the result has a place in the source.
use Rattle.std.specs.Prelude.{◌≡◌, ◌≤◌, ◌<◌, ℕ, zero, suc, ◌+◌, Bool, false, cond, List, [], ◌∷◌, ◌++◌, length, map, slice_index, slice_range, Option, None, Some, nat_eq, string_bytes}
use Rattle.std.specs.List.{list_any, filter, IsAmong}
use Rattle.std.specs.declared.alloc.Global.{Global}
use Rattle.std.specs.declared.string.String.{String}
use Rattle.yacc_import.specs.declared.marks.Mark.{Mark}
use Rattle.yacc_import.specs.declared.notes.Note.{Note}

-- line feeds, tabs and carriage returns stay, and a space is in place of any other byte
abbrev pub blank_of : ℕ → ℕ
blank_of b = cond (nat_eq b 10) 10 (cond (nat_eq b 9) 9 (cond (nat_eq b 13) 13 32))

abbrev pub mark : ℕ → ℕ → Mark
mark at b = record { byte = b; place = at }

-- bytes from a place on
abbrev pub marks_of : ℕ → List ℕ → List Mark
marks_of at [] = []
marks_of at (b ∷ bs) = mark at b ∷ marks_of (at + 1) bs

-- blanks for bytes from a place on
abbrev pub blanks_of : ℕ → List ℕ → List Mark
blanks_of at bs = marks_of at (map blank_of bs)

-- bytes that are all put at one place
abbrev pub put_at : ℕ → List ℕ → List Mark
put_at at bs = map (mark at) bs

abbrev pub bytes_of : List Mark → List ℕ
bytes_of marks = map (λ m. m.byte) marks

abbrev pub places_of : List Mark → List ℕ
places_of marks = map (λ m. m.place) marks

-- the place of a byte of the result, and the source's end past the last
abbrev pub place_of : List Mark → ℕ → ℕ → ℕ
place_of [] len i = len
place_of (m ∷ ms) len zero = m.place
place_of (m ∷ ms) len (suc i) = place_of ms len i

-- what is in place of a note's range: its text, or else blanks
abbrev pub text_or_blanks : List ℕ → Note → Option (String Global) → List Mark
text_or_blanks source n None = blanks_of n.start (slice_range source n.start n.end)
text_or_blanks source n (Some t) = put_at n.start (string_bytes t)

abbrev pub in_place : List ℕ → Note → List Mark
in_place source n = text_or_blanks source n n.text

-- the source from a place on, with notes applied: what none of them names stays
abbrev pub changed : List ℕ → ℕ → List Note → List Mark
changed source at [] = marks_of at (slice_range source at (length source))
changed source at (n ∷ ns) = marks_of at (slice_range source at n.start) ++ in_place source n ++ changed source n.end ns

abbrev pub is_line_feed : ℕ → Bool
is_line_feed b = nat_eq b 10

-- the line feeds, with their places
abbrev pub line_feeds : List Mark → List Mark
line_feeds marks = filter (λ m. is_line_feed m.byte) marks

abbrev pub has_line_feed : List ℕ → Bool
has_line_feed bs = list_any (λ b. nat_eq b 10) bs

-- a note lies in the source
pub record LiesIn (len : ℕ) (n : Note) : Type 0 where
  pub order : n.start ≤ n.end
  pub within : n.end ≤ len

-- where a note puts a text, neither the text nor what it replaces has a line feed
abbrev pub KeepsLines : List ℕ → Note → Type 0
KeepsLines source n = (t : String Global) → n.text ≡ Some t → (has_line_feed (string_bytes t) ≡ false) × (has_line_feed (slice_range source n.start n.end) ≡ false)

pub record FitsAlone (source : List ℕ) (n : Note) : Type 0 where
  pub lies : LiesIn (length source) n
  pub lines : KeepsLines source n

-- the notes lie one behind the other
abbrev pub Fits : List ℕ → ℕ → List Note → Type 0
Fits source at [] = at ≤ length source
Fits source at (n ∷ ns) = (at ≤ n.start) × FitsAlone source n × Fits source n.end ns

-- a byte of the result is the source's at its place, or the blank for that, or of a text that a note puts there
pub data IsFor (source : List ℕ) (notes : List Note) (m : Mark) : Type 0 where
  kept : m.place < length source → m.byte ≡ slice_index source m.place → IsFor source notes m
  blanked : m.place < length source → m.byte ≡ blank_of (slice_index source m.place) → IsFor source notes m
  put : (n : Note) → (t : String Global) → IsAmong notes n → m.place ≡ n.start → n.text ≡ Some t → IsAmong (string_bytes t) m.byte → IsFor source notes m

-- numbers from low up to high, none below the one before
abbrev pub Rises : ℕ → List ℕ → ℕ → Type 0
Rises low [] high = low ≤ high
Rises low (p ∷ ps) high = (low ≤ p) × Rises p ps high
