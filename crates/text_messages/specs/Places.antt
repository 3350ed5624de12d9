-- Places in a text, and the line that tells one. A place past the text counts as the text's end. The text that is shown may be
-- another than the one that was read, as where that was made of it.
use Rattle.std.specs.Prelude.{◌≡◌, ℕ, Bool, true, false, cond, List, [], ◌∷◌, ◌++◌, length, slice_index, min, nat_lt, codes, Option, None, Some}
use Rattle.std.specs.Fmt.{decimal}
use Rattle.cfg_base.specs.SpanModel.{SpanModel}
use Rattle.cfg_base.specs.Newlines.{line_of, column_of}
use Rattle.text_messages.specs.declared.source.Severity.{Severity}
use Rattle.text_messages.specs.declared.source.Severity.TheVariants.{Error, Warning, Note}

-- the text that spans are of, the one that is shown, the offset in this of each byte of that (none where both are the same), the
-- path that places are shown with, and whether messages are in color
pub record SourceValue : Type 0 where
  pub text : List ℕ
  pub shown : List ℕ
  pub places : List ℕ
  pub path : List ℕ
  pub color : Bool

-- the offset in a text of so many bytes for an offset: itself where there are no places, and the end past the last of them. One
-- past the end counts as the end
abbrev pub offset_by : List ℕ → ℕ → ℕ → ℕ
offset_by [] len at = min at len
offset_by (p ∷ ps) len at = min (cond (nat_lt at (length (p ∷ ps))) (slice_index (p ∷ ps) at) len) len

-- the offset in the text shown for an offset in the text that spans are of
abbrev pub shown_at : SourceValue → ℕ → ℕ
shown_at source at = offset_by source.places (length source.shown) at

-- the line and the column of an offset, in the text shown
abbrev pub place_of : SourceValue → ℕ → ℕ × ℕ
place_of source at = (line_of source.shown (shown_at source at), column_of source.shown source.shown (shown_at source at))

abbrev pub severity_text : Severity → List ℕ
severity_text Error = codes "error"
severity_text Warning = codes "warning"
severity_text Note = codes "note"

-- the escape sequence that begins a color, a text, and the one that ends it
abbrev pub colored : List ℕ → List ℕ → List ℕ
colored color text = 27 ∷ codes "[1;" ++ color ++ codes "m" ++ text ++ 27 ∷ codes "[0m"

abbrev pub colored_severity_text : Severity → List ℕ
colored_severity_text Error = colored (codes "31") (severity_text Error)
colored_severity_text Warning = colored (codes "35") (severity_text Warning)
colored_severity_text Note = colored (codes "36") (severity_text Note)

-- the word of a severity, in color or plain
abbrev pub word_text : Bool → Severity → List ℕ
word_text true severity = colored_severity_text severity
word_text false severity = severity_text severity

-- `PATH:LINE:COLUMN`
abbrev pub place_text : SourceValue → SpanModel → List ℕ
place_text source span = source.path ++ codes ":" ++ decimal (place_of source span.start).0 ++ codes ":" ++ decimal (place_of source span.start).1

-- `PATH:LINE:COLUMN: error: MESSAGE`
abbrev pub heading : SourceValue → Severity → SpanModel → List ℕ → List ℕ
heading source severity span message = place_text source span ++ codes ": " ++ word_text source.color severity ++ codes ": " ++ message ++ codes "\n"

-- `PATH: error: MESSAGE`, of what has no place
abbrev pub heading_without_place : SourceValue → Severity → List ℕ → List ℕ
heading_without_place source severity message = source.path ++ codes ": " ++ word_text source.color severity ++ codes ": " ++ message ++ codes "\n"

-- the heading of a message that may have a place
abbrev pub heading_if : SourceValue → Severity → Option SpanModel → List ℕ → List ℕ
heading_if source severity None message = heading_without_place source severity message
heading_if source severity (Some span) message = heading source severity span message

-- the second text goes on from the first one
abbrev pub BeginsWith : List ℕ → List ℕ → Type 0
BeginsWith front text = (rest : List ℕ) × (text ≡ front ++ rest)
