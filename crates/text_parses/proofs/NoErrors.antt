-- A parse without errors has a tree.
use Rattle.std.proofs.Common.{◌≡◌, ℕ, ◌<◌, List, [], ◌∷◌, map, length, Option, None, Some, Result, refl, sym, subst, true≢false}
use Rattle.std.specs.List.{AllByRecursion}
use Rattle.std.specs.Prelude.{IsSome, Vec}
use Rattle.std.specs.declared.alloc.Global.{Global}
use Rattle.cfg_theory.specs.Fold.{Span, no_span}
use Rattle.cfg_theory.specs.Grammar.{Grammar}
use Rattle.cfg_theory.specs.Tree.{Tree}
use Rattle.lr_theory.specs.Automaton.{Automaton}
use Rattle.lr_theory.specs.Repair.{Edit}
use Rattle.lrpar.specs.Checked.{ParserValue}
use Rattle.lrpar.specs.FlatParses.{HasFlat}
use Rattle.lrpar.specs.Parses.{ErrorValue, IsParse}
use Rattle.lrpar.specs.Told.{HandsOut, IsHandedOut, IsReportedOutcome, IsToldParse, as_told, told_of}
use Rattle.lrpar.specs.declared.folded_parse.FoldedOutcome.{FoldedOutcome}
use Rattle.lrpar.specs.declared.folded_parse.FoldedOutcome.TheVariants as folded
use Rattle.lrpar.specs.declared.parse_error.ParseError.{ParseError}
use Rattle.parse_trees.specs.FlatTrees.{FlatValue, flat}
use Rattle.parse_trees.specs.Lex.{Lex, span_by}
use Rattle.parser_kit.proofs.KitParses.{kit_parse}
use Rattle.parser_kit.specs.KitParses.{IsKitParse}
use Rattle.parser_kit.specs.Tabled.{IsTabled}

no_found : {X Y Z : Type 0} (f : X → Z) (g : Y → Z) (errors : List X) (found : List Y) → errors ≡ [] → map f errors ≡ map g found → found ≡ []
no_found f g errors [] none e = refl
no_found f g [] (y ∷ ys) none e = cc
no_found f g (x ∷ xs) (y ∷ ys) none e = cc

all_of_none : {X : Type 0} (P : X → Type 0) (xs : List X) → xs ≡ [] → AllByRecursion P xs
all_of_none P [] e = tt
all_of_none P (x ∷ xs) e = cc

pub nil_of : {X : Type 0} (xs : List X) → length xs ≡ 0 → xs ≡ []
nil_of [] e = refl
nil_of (x ∷ xs) e = cc

not_some : {L : Type 0} (at : L → Span) (tree : Option (Tree L)) → IsSome tree → HasFlat at None tree → ⊥
not_some at None some gives = absurd (true≢false (sym some))
not_some at (Some t) some gives = absurd gives

pub has_tree : {S L E : Type 0} (number : S → ℕ) (lex : L → Lex) (faulty : ℕ → ℕ → ℕ → L) (d : ParserValue) (answers : ℕ → ℕ → L → List (List Edit) → Type 0) (items : List (Result L E)) (errors : List (ParseError L S)) →
    IsKitParse number lex faulty d answers items (HasFlat (span_by lex) None) errors → errors ≡ [] → ⊥
has_tree number lex faulty d answers items errors k none =
    let parse = k.exact.parse in
    let no_errors = no_found (told_of number) (as_told k.lexemes) errors k.found none k.told in
    not_some (span_by lex) parse.parsed.tree (parse.by_repairs.1 (all_of_none (λ e. 0 < length e.repairs) k.found no_errors)) parse.parsed.gives_tree

-- a parse with another word on its tree
of_its_tree : {L : Type 0} (G : Grammar) (a : Automaton) (tok : L → ℕ) (make : ℕ → List L → L) (answers : ℕ → ℕ → L → List (List Edit) → Type 0) (gives gives' : Option (Tree L) → Type 0) (lexemes : List L) (found : List (ErrorValue L)) →
    (p : IsParse G a tok make answers gives lexemes found) → gives' p.parsed.tree → IsParse G a tok make answers gives' lexemes found
of_its_tree G a tok make answers gives gives' lexemes found p h = record {
  parsed = record {
    handed = p.parsed.handed;
    places = p.parsed.places;
    tree = p.parsed.tree;
    repaired = p.parsed.repaired;
    parses = p.parsed.parses;
    told = p.parsed.told;
    gives_tree = h;
  };
  derives = p.derives;
  by_repairs = p.by_repairs;
  few = p.few;
  advance = p.advance;
  further = p.further;
  fits = p.fits;
  flawless = p.flawless;
  same_value = p.same_value;
  true_errors = p.true_errors;
}

flat_of : {L : Type 0} (at : L → Span) (tree : Option (Tree L)) → IsSome tree → (v : FlatValue L) × HasFlat at (Some v) tree
flat_of at None some = absurd (true≢false (sym some))
flat_of at (Some t) some = (record { pieces = flat at no_span t }, record { pieces_are = refl })

none_of_map : {A X : Type 0} (f : A → X) (es : List A) (errors : List X) → errors ≡ [] → errors ≡ map f es → es ≡ []
none_of_map f [] errors none e = refl
none_of_map f (x ∷ xs) [] none e = cc
none_of_map f (x ∷ xs) (y ∷ ys) none e = cc

no_single : {X : Type 0} (xs : List X) (x : X) → xs ≡ [] → xs ≡ x ∷ [] → ⊥
no_single [] x none e = cc
no_single (y ∷ ys) x none e = cc

-- where no error is handed out, the lexer has no fault and the parse no error
parsed_of : {S L E V X : Type 0} (fault : E → X) (wrong : ParseError L S → X) (o : FoldedOutcome S L E V) (value : Option V) (errors : List X) → errors ≡ [] → HandsOut fault wrong o value errors →
    (x : Option V) × (es : Vec (ParseError L S) Global) × (o ≡ folded.Parsed x es) × (es.items ≡ [])
parsed_of fault wrong (folded.Fault e) value errors none out = absurd (no_single errors (fault e) none out.1)
parsed_of fault wrong (folded.Parsed x es) value errors none out = (x, es, refl, none_of_map wrong es.items errors none out.1)

module _ (top : ℕ) (d : ParserValue) (is : IsTabled top d) where
  module _ {S L E X : Type 0} (fault : E → X) (wrong : ParseError L S → X) (number : S → ℕ) (lex : L → Lex) (faulty : ℕ → ℕ → ℕ → L) (answers : ℕ → ℕ → L → List (List Edit) → Type 0) (items : List (Result L E)) where
    abbrev Parses : Option (Tree L) → Type 0
    Parses tree = Unit {0}

    tree_of : (errors : List (ParseError L S)) → errors ≡ [] → IsToldParse number lex faulty d.grammar.grammar d.graph d.table Parses answers items errors →
        (v : FlatValue L) × IsKitParse number lex faulty d answers items (HasFlat (span_by lex) (Some v)) []
    tree_of errors none h =
        let no_errors = no_found (told_of number) (as_told h.lexemes) errors h.found none h.told in
        let v = flat_of (span_by lex) h.parse.parsed.tree (h.parse.by_repairs.1 (all_of_none (λ e. 0 < length e.repairs) h.found no_errors)) in
        let P : List (ParseError L S) → Type 0 = λ es. map (told_of number) es ≡ map (as_told h.lexemes) h.found in (
          v.0,
          kit_parse d is.well_formed is.table number lex faulty answers items (HasFlat (span_by lex) (Some v.0)) [] h.lexemes h.found h.are_items h.are_lexemes
              (of_its_tree _ _ _ _ answers Parses (HasFlat (span_by lex) (Some v.0)) h.lexemes h.found h.parse v.1) (subst P none h.told),
        )

    -- where no error is handed out, there is a tree
    pub tree_without_errors : (value : Option (Unit {0})) (errors : List X) → errors ≡ [] → IsHandedOut fault wrong number lex faulty d.grammar.grammar d.graph d.table (λ value. Parses) answers items value errors →
        (v : FlatValue L) × IsKitParse number lex faulty d answers items (HasFlat (span_by lex) (Some v)) []
    tree_without_errors value errors none h =
        let p = parsed_of fault wrong h.outcome value errors none h.hands_out in
        let P : FoldedOutcome S L E (Unit {0}) → Type 0 = λ o. IsReportedOutcome number lex faulty d.grammar.grammar d.graph d.table (λ value. Parses) answers items o in
        tree_of p.1.items p.3 (subst P p.2 h.comes_to)
