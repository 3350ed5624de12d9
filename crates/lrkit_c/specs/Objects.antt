-- Parses as JSON objects.
use Rattle.std.specs.Prelude.{◌≡◌, ℕ, true, false, List, [], Option, None, Result, Ok, Err, String, string_bytes}
use Rattle.std.specs.Global.{Global}
use Rattle.std.specs.Str.{IsUtf8}
use Rattle.lrpar.specs.Checked.{ParserValue}
use Rattle.text_parses.specs.ParseObjects.{IsTextObject}
use Rattle.text_parses.specs.Parses.{Asked, IsParsed, source_of}
use Rattle.text_parses.specs.declared.form.Form.TheVariants as forms
use Rattle.text_parses.specs.declared.parsing.Parsed.{Parsed}
use Rattle.lrkit_c.specs.Answers.{Puts, PutsNothing}
use Rattle.lrkit_c.specs.Errors.{IsParseStatus}
use Rattle.lrkit_c.specs.Lexed.{IsLexed, IsUnlexable}
use Rattle.lrkit_c.specs.Parses.{Item}
use Rattle.lrkit_c.specs.declared.answers.LrkitAnswer.{LrkitAnswer}
use Rattle.lrkit_c.specs.declared.held.Held.{Held}
use Rattle.lrkit_c.specs.declared.status.Status.{Status}
use Rattle.lrkit_c.specs.declared.status.Status.TheVariants as statuses

-- a text as an object has it: with repairs of at most this number of edits, and no next tokens
abbrev pub asked_as_object : (path text : List ℕ) → ℕ → Asked
asked_as_object path text edits = record {
  form = forms.Json;
  named = false;
  edits = edits;
  next = false;
  path = path;
  text = text;
  source = source_of path text;
  start = 0;
  line = None;
}

-- the line of the object of what the parse of a list's lexemes finds
pub record HasObject (d : ParserValue) (items : List Item) (asked : Asked) (line : List ℕ) : Type 0 where
  pub parsed : Parsed
  pub is : IsParsed d items asked.edits parsed
  pub is_line : IsTextObject d.grammar asked parsed line

-- an object is put; where there is none, nothing is written
abbrev pub PutsObject : Result (String Global) Status → (old new : List ℕ) → LrkitAnswer → Type 0
PutsObject (Ok line) old new a = Puts statuses.Done (string_bytes line) old new a
PutsObject (Err s) old new a = PutsNothing s old new a

-- the object of a list's lexemes is written
pub data AnswersObject (d : ParserValue) (items : List Item) (asked : Asked) (old new : List ℕ) (a : LrkitAnswer) : Type 0 where
  found : (line : List ℕ) → HasObject d items asked line → Puts statuses.Done line old new a → AnswersObject d items asked old new a
  refused : (status : Status) → IsParseStatus d.grammar.grammar items status → PutsNothing status old new a → AnswersObject d items asked old new a

-- that of lexemes of a text, with an empty path; or nothing, where the text is not UTF-8
pub data AnswersLexemeObject (d : ParserValue) (items : List Item) (text : List ℕ) (edits : ℕ) (old new : List ℕ) (a : LrkitAnswer) : Type 0 where
  parsed : AnswersObject d items (asked_as_object [] text edits) old new a → AnswersLexemeObject d items text edits old new a
  not_utf8 : (IsUtf8 text → ⊥) → PutsNothing statuses.NotUtf8 old new a → AnswersLexemeObject d items text edits old new a

-- that of the text's lexemes; or nothing, of a text that is not lexed, or where the path is not UTF-8
pub data AnswersTextObject (h : Held) (text path : List ℕ) (edits : ℕ) (old new : List ℕ) (a : LrkitAnswer) : Type 0 where
  lexed : (items : List Item) → IsLexed h text items → AnswersObject h.kit.parser items (asked_as_object path text edits) old new a → AnswersTextObject h text path edits old new a
  refused : (status : Status) → IsUnlexable h text status → PutsNothing status old new a → AnswersTextObject h text path edits old new a
  path_not_utf8 : (IsUtf8 path → ⊥) → PutsNothing statuses.NotUtf8 old new a → AnswersTextObject h text path edits old new a
