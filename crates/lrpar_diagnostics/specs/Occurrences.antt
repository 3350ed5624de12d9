-- Errors and warnings with their spans underlined.
use Rattle.std.specs.Prelude.{ℕ, ◌+◌, ◌-◌, ◌%◌, ◌==◌, ◌&&◌, List, [], ◌∷◌, ◌++◌, length, min, nat_lt, nat_le, if◌then◌else◌, codes, Option, Some, None, slice_get}
use Rattle.std.specs.Fmt.{decimal}
use Rattle.cfg_base.specs.SpanModel.{SpanModel}
use Rattle.cfg_base.specs.Newlines.{line_of}
use Rattle.cfg_base.specs.declared.span.SpansKind.{SpansKind}
use Rattle.cfg_base.specs.declared.span.SpansKind.TheVariants.{DuplicationError, Error}
use Rattle.lrpar_diagnostics.specs.Underlines.{underlined}

-- 11th, 12th and 13th, else by the last digit
abbrev pub ordinal_suffix : ℕ → List ℕ
ordinal_suffix n =
    if nat_le 11 (n % 100) && nat_le (n % 100) 13 then codes "th"
    else (if n % 10 == 1 then codes "st" else (if n % 10 == 2 then codes "nd" else (if n % 10 == 3 then codes "rd" else codes "th")))

abbrev pub ordinal_text : ℕ → List ℕ
ordinal_text n = decimal n ++ ordinal_suffix n

-- what the nth span of an error says, from the second on
abbrev pub occurrence_text : SpansKind → ℕ → List ℕ
occurrence_text DuplicationError n = ordinal_text n ++ codes " occurrence"
occurrence_text Error n = codes "Unrecognized spanskind"

-- the line on which a span starts
abbrev pub first_line : List ℕ → SpanModel → ℕ
first_line text span = line_of text (min span.start (length text))

-- dots in front of an underline, where the next span, if there is one, starts more than a line below
abbrev pub dots_before : List ℕ → SpanModel → Option SpanModel → List ℕ
dots_before text span None = []
dots_before text span (Some next) = if nat_lt 1 (first_line text next - first_line text span) then codes "..." else []

-- the spans from the nth on, each on lines of its own
abbrev pub later_texts : List ℕ → SpansKind → ℕ → List SpanModel → List ℕ
later_texts text kind n [] = []
later_texts text kind n (span ∷ rest) =
    (codes "\n" ++ underlined text (dots_before text span (slice_get rest 0)) span (occurrence_text kind n) 94) ++ later_texts text kind (n + 1) rest

-- an error or a warning: each span underlined, the first with its text
abbrev pub spanned_text : List ℕ → List ℕ → List SpanModel → SpansKind → List ℕ
spanned_text text message [] kind = []
spanned_text text message (span ∷ rest) kind = underlined text (dots_before text span (slice_get rest 0)) span message 94 ++ later_texts text kind 2 rest
