-- The symbols of a production underlined, line by line.
use Rattle.std.specs.Prelude.{ℕ, ◌==◌, List, [], ◌∷◌, ◌++◌, map, max, codes, Option, None, Some, slice_get, if◌then◌else◌}
use Rattle.cfg_base.specs.SpanModel.{SpanModel}
use Rattle.cfg_base.specs.Newlines.{line_start}
use Rattle.cfg_read.specs.Asts.{Ast, ProductionAst, SymbolAst}
use Rattle.lrpar_diagnostics.specs.Places.{part, columns, within}
use Rattle.lrpar_diagnostics.specs.Underlines.{spaces, shown_line, under_front, underline, start_on, end_on}

-- where what is added to a grammar stands
abbrev pub nowhere : SpanModel
nowhere = record { start = 0; end = 0 }

-- spans, or in place of none that of the whole
abbrev pub or_whole : SpanModel → List SpanModel → List SpanModel
or_whole whole [] = whole ∷ []
or_whole whole (s ∷ ss) = s ∷ ss

-- the spans of a production's symbols; without these its own
abbrev pub spans_of : ProductionAst → List SpanModel
spans_of p = or_whole p.span (map (λ (x : SymbolAst). x.word.span) p.symbols)

-- those of the production of this number, where one past the text's productions is added
abbrev pub spans_in : Option ProductionAst → List SpanModel
spans_in None = nowhere ∷ []
spans_in (Some p) = spans_of p

abbrev pub production_spans : Ast → ℕ → List SpanModel
production_spans ast p = spans_in (slice_get ast.productions p)

-- the first byte of the line that a span starts on
abbrev pub line_of_span : List ℕ → SpanModel → ℕ
line_of_span text span = line_start text (within text span).start

-- where a span ends on that line
abbrev pub end_of_span : List ℕ → SpanModel → ℕ
end_of_span text span = end_on text (line_of_span text span) (within text span)

-- the line that begins at a, and what stands under its front
abbrev pub opened_line : List ℕ → ℕ → List ℕ
opened_line text a = shown_line text a ++ under_front text a []

-- spaces from an offset of the line at a up to a span, and its underline
abbrev pub mark_behind : List ℕ → ℕ → ℕ → SpanModel → List ℕ
mark_behind text a from span =
    spaces (columns (part text from (max from (start_on text a span)))) ++ underline 45 (part text (start_on text a span) (end_on text a span))

-- a span behind an offset of the line at a: on that line, or on a line of its own
abbrev pub next_mark : List ℕ → ℕ → ℕ → SpanModel → List ℕ
next_mark text a from span =
    if line_of_span text span == a then mark_behind text a from (within text span)
    else codes " \n" ++ opened_line text (line_of_span text span) ++ mark_behind text (line_of_span text span) (line_of_span text span) (within text span)

abbrev pub marks_behind : List ℕ → ℕ → ℕ → List SpanModel → List ℕ
marks_behind text a from [] = []
marks_behind text a from (span ∷ rest) = next_mark text a from span ++ marks_behind text (line_of_span text span) (end_of_span text span) rest

-- each line that a span starts on, with the spans on it underlined
abbrev pub marked_lines : List ℕ → List SpanModel → List ℕ
marked_lines text [] = []
marked_lines text (span ∷ rest) = opened_line text (line_of_span text span) ++ marks_behind text (line_of_span text span) (line_of_span text span) (span ∷ rest)
