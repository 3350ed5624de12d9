-- Places and ranges of a text that is shown.
use Rattle.std.specs.Prelude.{ℕ, ◌≤◌, List, length}
use Rattle.cfg_base.specs.SpanModel.{SpanModel}
use Rattle.text_messages.specs.Places.{SourceValue, place_of, shown_at}
use Rattle.report_forms.specs.declared.values.Place.{Place}
use Rattle.report_forms.specs.declared.values.Range.{Range}

abbrev pub LiesIn : List ℕ → Range → Type 0
LiesIn text r = (r.start.byte ≤ length text) × (r.end.byte ≤ length text)

-- a place as its byte, line and column
abbrev pub place_numbers : Place → ℕ × ℕ × ℕ
place_numbers p = (p.byte, p.line, p.column)

-- those of an offset in the text that spans are of
abbrev pub place_numbers_at : SourceValue → ℕ → ℕ × ℕ × ℕ
place_numbers_at source at = (shown_at source at, (place_of source at).0, (place_of source at).1)

abbrev pub range_numbers : Range → (ℕ × ℕ × ℕ) × (ℕ × ℕ × ℕ)
range_numbers r = (place_numbers r.start, place_numbers r.end)

abbrev pub range_numbers_at : SourceValue → SpanModel → (ℕ × ℕ × ℕ) × (ℕ × ℕ × ℕ)
range_numbers_at source span = (place_numbers_at source span.start, place_numbers_at source span.end)
