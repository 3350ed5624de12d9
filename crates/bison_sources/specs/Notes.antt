-- Messages on what an import left out or changed.
use Rattle.std.specs.Prelude.{ℕ, Bool, true, false, ◌||◌, List, [], ◌∷◌, ◌++◌, map, flat_map, length, Option, None, Some, if◌then◌else◌, codes, string_bytes, ◌==◌}
use Rattle.std.specs.Str.{trim}
use Rattle.std.specs.declared.alloc.Global.{Global}
use Rattle.std.specs.declared.string.String.{String}
use Rattle.cfg_base.specs.SpanModel.{SpanModel}
use Rattle.text_messages.specs.Places.{SourceValue, heading}
use Rattle.text_messages.specs.declared.source.Message.{Message}
use Rattle.text_messages.specs.declared.source.Severity.{Severity}
use Rattle.text_messages.specs.declared.source.Severity.TheVariants as severities
use Rattle.yacc_import.specs.declared.notes.Note.{Note}
use Rattle.yacc_import.specs.declared.notes.NoteKind.{NoteKind}
use Rattle.yacc_import.specs.declared.notes.NoteKind.TheVariants.{Prologue, Epilogue, Directive, Moved, Tag, Number, Alias, Mark, Action, Midrule, Midrules, Reference, RuleDirective, Spelling, Word, Unsettled, Unleveled, Declared, Semicolon}

abbrev pub words_of : NoteKind → List ℕ
words_of Prologue = codes "prologue left out"
words_of Epilogue = codes "part of the epilogue left out"
words_of Directive = codes "word of a directive left out"
words_of Moved = codes "moved"
words_of Tag = codes "tag left out"
words_of Number = codes "token number left out"
words_of Alias = codes "alias left out where it is declared"
words_of Mark = codes "mark or comment left out"
words_of Action = codes "action left out"
words_of Midrule = codes "action in the middle made a rule"
words_of Midrules = codes "rules of actions in the middle"
words_of Reference = codes "reference left out"
words_of RuleDirective = codes "word of a directive in a rule left out"
words_of Spelling = codes "spelled otherwise"
words_of Word = codes "called by another word"
words_of Unsettled = codes "word of a precedence level left out: its conflicts stay"
words_of Unleveled = codes "word of %prec left out: the token has no precedence"
words_of Declared = codes "declaration added"
words_of Semicolon = codes "added"

-- the changes that show in a report on the grammar: in its conflicts, or in its names
abbrev pub shows : NoteKind → Bool
shows Midrule = true
shows RuleDirective = true
shows Unsettled = true
shows Unleveled = true
shows _ = false

-- what a message says, without help or example
pub record Said : Type 0 where
  pub severity : Severity
  pub span : Option SpanModel
  pub words : List ℕ

abbrev pub said : Message → Said
said m = record { severity = m.severity; span = m.span; words = string_bytes m.words }

abbrev pub note_at : ℕ → List ℕ → Said
note_at at words = record { severity = severities.Note; span = Some (record { start = at; end = at }); words = words }

-- a change in words, with what was put there if anything was
abbrev pub with_put : List ℕ → Option (String Global) → List ℕ
with_put words None = words
with_put words (Some t) = words ++ codes ": " ++ trim (string_bytes t)

abbrev pub message_of : Note → Said
message_of n = note_at n.start (with_put (words_of n.kind) n.text)

-- all notes, or those that show in a report
abbrev pub messages_of : Bool → List Note → List Said
messages_of is_all [] = []
messages_of is_all (n ∷ ns) = if is_all || shows n.kind then message_of n ∷ messages_of is_all ns else messages_of is_all ns

abbrev pub sign_message : ℕ → Said
sign_message at = note_at at (codes "read as a Bison file; --bison lists all that is left out or changed")

-- where a file shows at an offset that it is one of Bison, that comes first, and then what shows in a report; else all
abbrev pub note_messages : List Note → Option ℕ → List Said
note_messages notes None = messages_of true notes
note_messages notes (Some at) = sign_message at ∷ messages_of false notes

-- a line for each message that has a place, and an empty line behind them all
abbrev pub line_if : SourceValue → Severity → Option SpanModel → List ℕ → List ℕ
line_if file severity None words = []
line_if file severity (Some span) words = heading file severity span words

abbrev pub line_of : SourceValue → Message → List ℕ
line_of file m = line_if file m.severity m.span (string_bytes m.words)

abbrev pub lines_of : SourceValue → List Message → List ℕ
lines_of file ms = if length ms == 0 then [] else flat_map (line_of file) ms ++ codes "\n"
