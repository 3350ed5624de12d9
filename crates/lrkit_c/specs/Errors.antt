-- All errors of lexemes and of texts.
use Rattle.std.specs.Prelude.{◌≡◌, ℕ, ⊤, List, [], ◌∷◌, Result, Ok, Err, IfErr, IfOk}
use Rattle.std.specs.List.{flat_map}
use Rattle.cfg_theory.specs.Grammar.{Grammar}
use Rattle.lrpar.specs.Checked.{ParserValue}
use Rattle.parse_trees.specs.Refusals.{IsParseRefusal}
use Rattle.parse_trees.specs.declared.lexemes.ParseRefusal.{ParseRefusal}
use Rattle.text_parses.specs.Parses.{IsParsed}
use Rattle.text_parses.specs.declared.parsing.Parsed.{Parsed}
use Rattle.text_parses.specs.declared.parsing.Parsed.TheVariants as finds
use Rattle.lrkit_c.specs.Answers.{Puts, PutsNothing}
use Rattle.lrkit_c.specs.Lexed.{IsLexed, IsUnlexable}
use Rattle.lrkit_c.specs.Marks.{fault_mark}
use Rattle.lrkit_c.specs.Nodes.{TextLexeme}
use Rattle.lrkit_c.specs.Parses.{Item, lexeme_lex, status_for}
use Rattle.lrkit_c.specs.Reading.{MarksErrors, Reading}
use Rattle.lrkit_c.specs.declared.answers.LrkitAnswer.{LrkitAnswer}
use Rattle.lrkit_c.specs.declared.errors.Marked.{Marked}
use Rattle.lrkit_c.specs.declared.held.Held.{Held}
use Rattle.lrkit_c.specs.declared.marks.LrkitMark.{LrkitMark}
use Rattle.lrkit_c.specs.declared.status.Status.{Status}
use Rattle.lrkit_c.specs.declared.status.Status.TheVariants as statuses

-- the lexeme of an item
abbrev pub lexeme_in : Item → List TextLexeme
lexeme_in (Ok x) = x ∷ []
lexeme_in (Err e) = []

-- a sentence has no marks; the lexer's error is one; those of the parser's errors are read from the first lexeme on
abbrev pub IsMarked : ParserValue → List Item → Parsed → List LrkitMark → Type 0
IsMarked d items (finds.Tree t) marks = marks ≡ []
IsMarked d items (finds.Unlexed e) marks = marks ≡ fault_mark e ∷ []
IsMarked d items (finds.Unparsed errors) marks = (last : Reading) × MarksErrors d errors.items (record { front = []; left = flat_map lexeme_in items }) last marks

abbrev pub status_found : Parsed → Status
status_found (finds.Tree t) = statuses.Done
status_found (finds.Unlexed e) = statuses.Unlexed
status_found (finds.Unparsed errors) = statuses.Syntax

-- the marks of what the parse of a list's lexemes finds, with repairs of at most this number of edits
pub record HasErrors (d : ParserValue) (items : List Item) (edits : ℕ) (status : Status) (marks : List LrkitMark) : Type 0 where
  pub parsed : Parsed
  pub is : IsParsed d items edits parsed
  pub marked : IsMarked d items parsed marks
  pub status_is : status ≡ status_found parsed

-- why lexemes are not parsed: memory is refused, or one is of no token or starts too early
abbrev pub IsParseStatus : Grammar → List Item → Status → Type 0
IsParseStatus G items statuses.Memory = ⊤
IsParseStatus G items statuses.Lexemes = (r : ParseRefusal) × IsParseRefusal G lexeme_lex items r × (status_for r ≡ statuses.Lexemes)
IsParseStatus G items status = ⊥

-- marks are put with the status that they have; where there are none, nothing is written
abbrev pub PutsErrors : Result Marked Status → (old new : List LrkitMark) → LrkitAnswer → Type 0
PutsErrors (Ok m) old new a = Puts m.status m.marks.items old new a
PutsErrors (Err s) old new a = PutsNothing s old new a

-- the errors of a list's lexemes are written
pub data AnswersErrors (d : ParserValue) (items : List Item) (edits : ℕ) (old new : List LrkitMark) (a : LrkitAnswer) : Type 0 where
  found : (status : Status) (marks : List LrkitMark) → HasErrors d items edits status marks → Puts status marks old new a → AnswersErrors d items edits old new a
  refused : (status : Status) → IsParseStatus d.grammar.grammar items status → PutsNothing status old new a → AnswersErrors d items edits old new a

-- those of the text's lexemes; or nothing, of a text that is not lexed
pub data AnswersTextErrors (h : Held) (text : List ℕ) (edits : ℕ) (old new : List LrkitMark) (a : LrkitAnswer) : Type 0 where
  lexed : (items : List Item) → IsLexed h text items → AnswersErrors h.kit.parser items edits old new a → AnswersTextErrors h text edits old new a
  refused : (status : Status) → IsUnlexable h text status → PutsNothing status old new a → AnswersTextErrors h text edits old new a
