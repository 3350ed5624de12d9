-- The texts of errors.
use Rattle.std.specs.Prelude.{◌≡◌, ◌≤◌, ℕ, suc, ◌+◌, ◌-◌, ◌==◌, List, [], ◌∷◌, ◌++◌, length, map, replicate, slice_range, if◌then◌else◌, codes, Option, Some, None}
use Rattle.std.specs.Borrow.{Bor}
use Rattle.std.specs.List.{flat_map}
use Rattle.std.specs.Fmt.{decimal}
use Rattle.std.specs.Str.{IsCharBoundary}
use Rattle.cfg_base.specs.SpanModel.{SpanModel}
use Rattle.cfg_base.specs.Newlines.{line_of, column_of}
use Rattle.cfg_base.specs.Text.{is_line_feed}
use Rattle.cfg_base.specs.declared.symbol.TIdx.{TIdx}
use Rattle.parse_trees.specs.Lex.{Lex}
use Rattle.parse_trees.specs.Shown.{ShownEdit, inserted, deleted, shifted}
use Rattle.parse_trees.specs.declared.error_texts.Piece.{Piece}
use Rattle.parse_trees.specs.declared.error_texts.Piece.TheVariants as pieces

-- what is shown of a sequence: a token put in, and parts of the input that are left out or taken
pub data Shown : Type 0 where
  put : ℕ → Shown
  left_out : ℕ → ℕ → Shown
  taken : ℕ → ℕ → Shown

-- a deletion in front of the rest: one with a deletion that starts at its end
abbrev pub join : ℕ → ℕ → List Shown → List Shown
join start end [] = left_out start end ∷ []
join start end (put t ∷ ps) = left_out start end ∷ put t ∷ ps
join start end (taken from to ∷ ps) = left_out start end ∷ taken from to ∷ ps
join start end (left_out from to ∷ ps) = if from == end then left_out start to ∷ ps else left_out start end ∷ left_out from to ∷ ps

abbrev pub before_shown : {L : Type 0} → (L → Lex) → ShownEdit L → List Shown → List Shown
before_shown lex (inserted t) ps = put t ∷ ps
before_shown lex (deleted x) ps = join (lex x).places.start (lex x).places.end ps
before_shown lex (shifted x) ps = taken (lex x).places.start (lex x).places.end ∷ ps

-- a sequence, where deletions that touch are one
abbrev pub shown_parts : {L : Type 0} → (L → Lex) → List (ShownEdit L) → List Shown
shown_parts lex [] = []
shown_parts lex (e ∷ es) = before_shown lex e (shown_parts lex es)

-- the input without LFs: each is shown as `\n`
abbrev pub escaped : List ℕ → List ℕ
escaped text = flat_map (λ b. if is_line_feed b then 92 ∷ 110 ∷ [] else b ∷ []) text

abbrev pub part_text : (ℕ → List ℕ) → List ℕ → Shown → List ℕ
part_text names input (put t) = codes "Insert " ++ names t
part_text names input (left_out start end) = codes "Delete " ++ escaped (slice_range input start end)
part_text names input (taken start end) = codes "Shift " ++ escaped (slice_range input start end)

-- texts with `, ` between them
abbrev pub comma_joined : List (List ℕ) → List ℕ
comma_joined [] = []
comma_joined (t ∷ ts) = t ++ flat_map (λ u. codes ", " ++ u) ts

abbrev pub sequence_text : {L : Type 0} → (ℕ → List ℕ) → List ℕ → (L → Lex) → List (ShownEdit L) → List ℕ
sequence_text names input lex es = comma_joined (map (part_text names input) (shown_parts lex es))

-- what fills a number up to the digits of n
abbrev pub filling : ℕ → ℕ → List ℕ
filling n i = replicate (length (decimal n) - length (decimal i)) 32

-- what stands in front of the i-th of n sequences: a line of its own, three spaces, and its number, as wide as the last one's
abbrev pub number_front : ℕ → ℕ → List ℕ
number_front n i = codes "\n   " ++ filling n i ++ decimal i ++ codes ": "

-- the sequences from the i-th on, of n in all
abbrev pub sequence_lines : ℕ → ℕ → List (List ℕ) → List ℕ
sequence_lines n i [] = []
sequence_lines n i (t ∷ ts) = (number_front n i ++ t) ++ sequence_lines n (i + 1) ts

abbrev pub repairs_text : List (List ℕ) → List ℕ
repairs_text [] = codes " No repair sequences found."
repairs_text (t ∷ ts) = codes " Repair sequences found:" ++ sequence_lines (suc (length ts)) 1 (t ∷ ts)

-- where an error is: the line and the column of its start
abbrev pub place_text : List ℕ → SpanModel → List ℕ
place_text input span = codes " error at line " ++ decimal (line_of input span.start) ++ codes " column " ++ decimal (column_of input input span.start) ++ codes "."

abbrev pub lexing_error_text : List ℕ → SpanModel → List ℕ
lexing_error_text input span = codes "Lexing" ++ place_text input span

abbrev pub parsing_error_text : {L : Type 0} → (ℕ → List ℕ) → List ℕ → (L → Lex) → L → List (List (ShownEdit L)) → List ℕ
parsing_error_text names input lex x rs = codes "Parsing" ++ place_text input (lex x).places ++ repairs_text (map (sequence_text names input lex) rs)

-- the text of a token by what a function answers: one that it has no text for is shown by its number
abbrev pub name_or_number : ℕ → Option (Bor (List ℕ)) → List ℕ
name_or_number t None = codes "token " ++ decimal t
name_or_number t (Some s) = s.now

-- a function answers these texts of tokens
abbrev pub AnswersNames : {S : Type 0} → (S → ℕ) → (TIdx S → Option (Bor (List ℕ)) → Type 0) → (ℕ → List ℕ) → Type 0
AnswersNames {S} number post names = (t : TIdx S) (r : Option (Bor (List ℕ))) → post t r → names (number t.0) ≡ name_or_number (number t.0) r

-- a part of the input from the start of a character to that of another
pub record FitsInput (input : List ℕ) (start end : ℕ) : Type 0 where
  pub ordered : start ≤ end
  pub starts : IsCharBoundary input start
  pub ends : IsCharBoundary input end

-- the parts of the input that are shown fit it
abbrev pub ShownFits : List ℕ → Shown → Type 0
ShownFits input (put t) = Unit {0}
ShownFits input (left_out start end) = FitsInput input start end
ShownFits input (taken start end) = FitsInput input start end

abbrev pub EditFits : {L : Type 0} → List ℕ → (L → Lex) → ShownEdit L → Type 0
EditFits input lex (inserted t) = Unit {0}
EditFits input lex (deleted x) = FitsInput input (lex x).places.start (lex x).places.end
EditFits input lex (shifted x) = FitsInput input (lex x).places.start (lex x).places.end

-- what a value of the program shows
abbrev pub seen_as : {S : Type 0} → (S → ℕ) → Piece S → Shown
seen_as number (pieces.Insert t) = put (number t.0)
seen_as number (pieces.Delete start end) = left_out start end
seen_as number (pieces.Shift start end) = taken start end

-- the first part of a list is a deletion that starts there and ends at what is told, or it isn't one
abbrev pub Touches : ℕ → List Shown → Option ℕ → Type 0
Touches end ps None = (start : ℕ) → join start end ps ≡ left_out start end ∷ ps
Touches end ps (Some to) = (qs : List Shown) × (ps ≡ left_out end to ∷ qs)
