-- Lines of a source with parts of them underlined.
use Rattle.std.specs.Prelude.{ℕ, ◌-◌, List, ◌++◌, length, min, max, codes, encode_utf8}
use Rattle.std.specs.Fmt.{decimal}
use Rattle.std.specs.List.{repeat, join_by}
use Rattle.cfg_base.specs.SpanModel.{SpanModel}
use Rattle.cfg_base.specs.Text.{line_end}
use Rattle.cfg_base.specs.Newlines.{line_of, line_start}
use Rattle.lrpar_diagnostics.specs.Places.{part, columns, within, shown_end, line_starts}

abbrev pub spaces : ℕ → List ℕ
spaces n = repeat n (codes " ")

-- `N| `, in front of a line
abbrev pub front_text : ℕ → List ℕ
front_text number = decimal number ++ codes "| "

-- the line that begins at a, behind its front
abbrev pub shown_line : List ℕ → ℕ → List ℕ
shown_line text a = front_text (line_of text a) ++ part text a (shown_end text a) ++ codes "\n"

-- what stands under a front: a prefix in the place of as many spaces
abbrev pub under_front : List ℕ → ℕ → List ℕ → List ℕ
under_front text a prefix = prefix ++ spaces (length (front_text (line_of text a)) - length prefix)

-- an underline: as many characters as the part has columns, but at least one
abbrev pub underline : ℕ → List ℕ → List ℕ
underline mark bytes = repeat (max (columns bytes) 1) (encode_utf8 mark)

-- where a span starts and ends on the line that begins at a: on its shown text, and not before the line
abbrev pub start_on : List ℕ → ℕ → SpanModel → ℕ
start_on text a span = min (max span.start a) (shown_end text a)

abbrev pub end_on : List ℕ → ℕ → SpanModel → ℕ
end_on text a span = min (max span.end a) (shown_end text a)

-- the line that begins at a, with the part within the span underlined
abbrev pub underlined_line : List ℕ → List ℕ → SpanModel → ℕ → ℕ → List ℕ
underlined_line text prefix span mark a =
    shown_line text a ++ under_front text a prefix ++ spaces (columns (part text a (start_on text a span)))
    ++ underline mark (part text (start_on text a span) (end_on text a span))

-- the lines that a span touches, each with its underline, and a message behind the last
abbrev pub underlined_lines : List ℕ → List ℕ → SpanModel → List ℕ → ℕ → List ℕ
underlined_lines text prefix span message mark =
    join_by (underlined_line text prefix span mark) (codes "\n") (line_starts text (line_start text span.start) (line_end text span.end)) ++ codes " " ++ message

abbrev pub underlined : List ℕ → List ℕ → SpanModel → List ℕ → ℕ → List ℕ
underlined text prefix span message mark = underlined_lines text prefix (within text span) message mark
