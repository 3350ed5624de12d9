-- Values and errors as a parse hands them out.
use Rattle.std.proofs.Common.{◌≡◌, ℕ, List, [], ◌∷◌, ◌++◌, map, Option, Result, Ok, Err, refl, sym, subst, ◌∙◌}
use Rattle.std.specs.Prelude.{IfOk, IsNone, Vec}
use Rattle.std.specs.declared.alloc.Global.{Global}
use Rattle.cfg_theory.specs.Derivation.{AllProductive}
use Rattle.cfg_theory.specs.Fold.{Answers}
use Rattle.cfg_theory.specs.Grammar.{WellFormed}
use Rattle.lr_theory.specs.Repair.{Edit}
use Rattle.table_theory.specs.Cells.{NoPrecedences}
use Rattle.lrpar.specs.Checked.{ParserValue}
use Rattle.parse_trees.specs.Lex.{Lex, span_by}
use Rattle.lrpar.specs.Parses.{HasValue}
use Rattle.lrpar.specs.Told.{HandsOut, IsHandedOut}
use Rattle.lrpar.specs.declared.folded_parse.FoldedOutcome.{FoldedOutcome}
use Rattle.lrpar.specs.declared.folded_parse.FoldedOutcome.TheVariants as folded
use Rattle.lrpar.specs.declared.parse_error.ParseError.{ParseError}
use Rattle.state_table.specs.CellViews.{precedences_of}
use Rattle.state_table.specs.Tables.{IsTableOf}
use Rattle.parser_kit.specs.KitParses.{IsHanded, IsKitOutcome, IsKitParse, ItemsFollowSentences, LeavesNoTrace}
use Rattle.parser_kit.proofs.KitParses.{items_follow, no_trace, told_parse}

-- a list of lexemes has no fault
no_fault : {L E : Type 0} (before : List L) (e : E) (after : List (Result L E)) (lexemes : List L) → map {B = Result L E} Ok before ++ Err e ∷ after ≡ map Ok lexemes → ⊥
no_fault [] e after [] same = cc
no_fault [] e after (x ∷ xs) same = cc
no_fault (y ∷ ys) e after [] same = cc
no_fault {L = L} {E = E} (y ∷ ys) e after (x ∷ xs) same =
    let rest : map {B = Result L E} Ok ys ++ Err e ∷ after ≡ map Ok xs = cc in
    no_fault ys e after xs rest

none_handed : {A X : Type 0} (wrong : A → X) (es : List A) (errors : List X) → errors ≡ map wrong es → es ≡ [] → errors ≡ []
none_handed wrong [] errors same none = same
none_handed wrong (x ∷ xs) errors same none = cc

none_found : {A X : Type 0} (wrong : A → X) (es : List A) (errors : List X) → errors ≡ map wrong es → errors ≡ [] → es ≡ []
none_found wrong [] errors same none = refl
none_found wrong (x ∷ xs) errors same none = cc

weaker : {S L E V X : Type 0} (fault : E → X) (wrong : ParseError L S → X) (items : List (Result L E)) (P Q : Option V → List (ParseError L S) → Type 0) → ((value : Option V) (es : List (ParseError L S)) → P value es → Q value es) →
    (value : Option V) (errors : List X) → IsHanded fault wrong items P value errors → IsHanded fault wrong items Q value errors
weaker fault wrong items P Q f value errors (IsHanded.faulty e first none is) = IsHanded.faulty e first none is
weaker fault wrong items P Q f value errors (IsHanded.parsed es is h) = IsHanded.parsed es is (f value es h)

module _ (d : ParserValue) (good : WellFormed d.grammar.grammar) (is : IsTableOf d.grammar d.graph d.table) where
  module _ {S L E V X : Type 0} (fault : E → X) (wrong : ParseError L S → X) (number : S → ℕ) (lex : L → Lex) (made_up : ℕ → ℕ → ℕ → L) (answers : ℕ → ℕ → L → List (List Edit) → Type 0) (by : Answers L V) (items : List (Result L E)) where
    abbrev parse : Option V → List (ParseError L S) → Type 0
    parse value es = IsKitParse number lex made_up d answers items (HasValue d.grammar.grammar by (span_by lex) value) es

    abbrev trace : Option V → List (ParseError L S) → Type 0
    trace value es = LeavesNoTrace number lex made_up d answers items (HasValue d.grammar.grammar by (span_by lex) value) es

    abbrev handed : Option V → List X → Type 0
    handed value errors = IsHandedOut fault wrong number lex made_up d.grammar.grammar d.graph d.table (HasValue d.grammar.grammar by (span_by lex)) answers items value errors

    of_outcome : (o : FoldedOutcome S L E V) (value : Option V) (errors : List X) → IsKitOutcome number lex made_up d by answers items o → HandsOut fault wrong o value errors → IsHanded fault wrong items parse value errors
    of_outcome (folded.Fault e) value errors k h = IsHanded.faulty e k h.0 h.1
    of_outcome (folded.Parsed v es) value errors k h = IsHanded.parsed es.items h.1 (subst (λ (o : Option V). parse o es.items) (sym h.0) k)

    is_handed : (value : Option V) (errors : List X) → handed value errors → IsHanded fault wrong items parse value errors
    is_handed value errors h = of_outcome h.outcome value errors (told_parse d good is number lex made_up answers by items h.outcome h.comes_to) h.hands_out

    follows : NoPrecedences (precedences_of d.grammar) → IsNone d.table.conflicts → (value : Option V) (errors : List X) → IsHanded fault wrong items parse value errors →
        ItemsFollowSentences lex d.grammar.grammar items (HasValue d.grammar.grammar by (span_by lex) value) errors
    follows none unlisted value errors (IsHanded.faulty e first empty same) = λ lexemes are. absurd (no_fault first.before e first.after lexemes (sym first.is ∙ are))
    follows none unlisted value errors (IsHanded.parsed es same k) = λ lexemes are.
        let f = items_follow d good is number lex made_up answers items (HasValue d.grammar.grammar by (span_by lex) value) es none unlisted k lexemes are in
        record {
          sentences = (λ e. f.sentences.0 (none_found wrong es errors same e), λ s. none_handed wrong es errors same (f.sentences.1 s));
          value = f.value;
          only_tree = f.only_tree;
        }

    pub handed_ok : {F : Type 0} (r : Result (Option V × Vec X Global) F) → IfOk r (λ p. handed p.0 p.1.items) → IfOk r (λ p. IsHanded fault wrong items parse p.0 p.1.items)
    handed_ok (Ok p) h = is_handed p.0 p.1.items h
    handed_ok (Err e) h = tt

    pub handed_follows : {F : Type 0} (r : Result (Option V × Vec X Global) F) → IfOk r (λ p. handed p.0 p.1.items) → NoPrecedences (precedences_of d.grammar) → IsNone d.table.conflicts →
        IfOk r (λ p. ItemsFollowSentences lex d.grammar.grammar items (HasValue d.grammar.grammar by (span_by lex) p.0) p.1.items)
    handed_follows (Ok p) h none unlisted = follows none unlisted p.0 p.1.items (is_handed p.0 p.1.items h)
    handed_follows (Err e) h none unlisted = tt

    pub handed_traceless : {F : Type 0} (r : Result (Option V × Vec X Global) F) → IfOk r (λ p. handed p.0 p.1.items) → NoPrecedences (precedences_of d.grammar) → IsNone d.table.conflicts → AllProductive d.grammar.grammar →
        IfOk r (λ p. IsHanded fault wrong items trace p.0 p.1.items)
    handed_traceless (Ok p) h none unlisted productive =
        weaker fault wrong items parse trace (λ value es k. no_trace d good is number lex made_up answers items (HasValue d.grammar.grammar by (span_by lex) value) es none unlisted productive k)
        p.0 p.1.items (is_handed p.0 p.1.items h)
    handed_traceless (Err e) h none unlisted productive = tt
