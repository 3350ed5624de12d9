-- What is answered where lexemes have no tree.
use Rattle.std.proofs.Common.{◌≡◌, ℕ, List, refl, subst}
use Rattle.std.specs.Global.{Global}
use Rattle.std.specs.Prelude.{IfErr, IfOk, Result, Ok, Err, String, string_bytes}
use Rattle.cfg_theory.specs.Grammar.{Grammar}
use Rattle.lrpar.specs.Checked.{ParserValue}
use Rattle.parse_trees.specs.Refusals.{IsParseRefusal}
use Rattle.parse_trees.specs.declared.lexemes.ParseRefusal.{ParseRefusal}
use Rattle.parse_trees.specs.declared.lexemes.ParseRefusal.TheVariants as refusals
use Rattle.text_parses.specs.Parses.{Asked}
use Rattle.lrkit_c.specs.Errors.{AnswersErrors, HasErrors, IsParseStatus, PutsErrors}
use Rattle.lrkit_c.specs.Objects.{AnswersObject, HasObject, PutsObject}
use Rattle.lrkit_c.specs.Parses.{Item, lexeme_lex, status_for}
use Rattle.lrkit_c.specs.declared.answers.LrkitAnswer.{LrkitAnswer}
use Rattle.lrkit_c.specs.declared.errors.Marked.{Marked}
use Rattle.lrkit_c.specs.declared.marks.LrkitMark.{LrkitMark}
use Rattle.lrkit_c.specs.declared.status.Status.{Status}

pub parse_status : (G : Grammar) (items : List Item) (r : ParseRefusal) → IsParseRefusal G lexeme_lex items r → IsParseStatus G items (status_for r)
parse_status G items (refusals.LexemeOutside k) is = (refusals.LexemeOutside k, is, refl)
parse_status G items (refusals.StartDecreases k) is = (refusals.StartDecreases k, is, refl)
parse_status G items (refusals.Memory e) is = tt

pub errors_answered : (d : ParserValue) (items : List Item) (edits : ℕ) (found : Result Marked Status) (old new : List LrkitMark) (a : LrkitAnswer) → IfOk found (λ m. HasErrors d items edits m.status m.marks.items) →
    IfErr found (IsParseStatus d.grammar.grammar items) → PutsErrors found old new a → AnswersErrors d items edits old new a
errors_answered d items edits (Ok m) old new a has none put = AnswersErrors.found m.status m.marks.items has put
errors_answered d items edits (Err s) old new a has none put = AnswersErrors.refused s none put

pub object_answered : (d : ParserValue) (items : List Item) (asked : Asked) (found : Result (String Global) Status) (old new : List ℕ) (a : LrkitAnswer) → IfOk found (λ line. HasObject d items asked (string_bytes line)) →
    IfErr found (IsParseStatus d.grammar.grammar items) → PutsObject found old new a → AnswersObject d items asked old new a
object_answered d items asked (Ok line) old new a has none put = AnswersObject.found (string_bytes line) has put
object_answered d items asked (Err s) old new a has none put = AnswersObject.refused s none put

pub object_as_asked : (d : ParserValue) (items items' : List Item) (asked asked' : Asked) (old new : List ℕ) (a : LrkitAnswer) → AnswersObject d items asked old new a → items ≡ items' → asked ≡ asked' → AnswersObject d items' asked' old new a
object_as_asked d items items' asked asked' old new a is same same' =
    let P : List Item → Type 0 = λ xs. AnswersObject d xs asked old new a in
    let Q : Asked → Type 0 = λ k. AnswersObject d items' k old new a in
    subst Q same' (subst P same is)
