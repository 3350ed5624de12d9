-- A text as it is asked for.
use Rattle.std.specs.Prelude.{ℕ, Option, None, Some}
use Rattle.text_messages.specs.Places.{SourceValue}
use Rattle.text_parses.specs.Parses.{Asked, source_of}
use Rattle.text_parses.specs.declared.form.FileLine.{FileLine}
use Rattle.text_parses.specs.declared.form.Input.{Input}
use Rattle.text_parses.specs.declared.form.Shown.{Shown}

-- a text that messages show as it is
abbrev pub asked_of : Input → Asked
asked_of input = record {
  form = input.form;
  named = input.named;
  edits = input.edits;
  next = input.next;
  path = input.path.now;
  text = input.text.now;
  source = source_of input.path.now input.text.now;
  start = 0;
  line = None;
}

-- a text that is in another one, which messages show in its place
abbrev pub shown_in : SourceValue → ℕ → Option ℕ → Asked → Asked
shown_in source start line a = record a { source = source; start = start; line = line }

-- a line of a file
abbrev pub asked_of_line : Input → FileLine → Asked
asked_of_line input line = shown_in line.source.now line.start (Some line.number) (asked_of input)

abbrev pub asked_in : Shown → Asked
asked_in s = shown_in s.source.now s.start s.line (asked_of s.input)
