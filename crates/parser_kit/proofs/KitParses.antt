-- Parses with the table of a grammar: what its laws say of them.
use Rattle.std.proofs.Common.{◌≡◌, ◌≢◌, ◌<◌, ◌↔◌, ℕ, suc, List, [], ◌∷◌, map, Option, Some, Result, Ok, Err, refl, sym, ap, ◌∙◌, subst, arith}
use Rattle.std.specs.Prelude.{IfOk, IsNone, Vec, slice_get}
use Rattle.std.specs.declared.alloc.Global.{Global}
use Rattle.std.specs.List.{AllByRecursion}
use Rattle.cfg_numbered.specs.Value.{GrammarValue}
use Rattle.cfg_theory.specs.Derivation.{AllProductive, IsSentence}
use Rattle.cfg_theory.specs.Fold.{Answers}
use Rattle.cfg_theory.specs.Grammar.{Grammar, WellFormed, end_token, start_symbol}
use Rattle.cfg_theory.specs.Tree.{Tree}
use Rattle.lr_theory.specs.Automaton.{Automaton, Closed, Complete}
use Rattle.lr_theory.specs.Machine.{Config, accepted, run, start_config}
use Rattle.lr_theory.specs.Repair.{Edit}
use Rattle.lr_theory.specs.HandedRepairs.{ParsesWith}
use Rattle.lr_theory.specs.Table.{IsAutomatonOf, FillsCells}
use Rattle.lr_theory.specs.TableLaws.{IsUncontested}
use Rattle.lr_theory.specs.ViablePrefix.{HasPresent}
use Rattle.lr_theory.proofs.TableLaws.{automaton_is_safe, complete_iff_uncontested, machine_is_exact}
use Rattle.table_theory.specs.Cells.{Conflicts, NoPrecedences}
use Rattle.table_theory.proofs.TableCells.{built_law, list_law}
use Rattle.lrpar.specs.Checked.{ParserValue}
use Rattle.lrpar.specs.FlatParses.{HasFlat, IsFlatParse}
use Rattle.lrpar.specs.OutlineParses.{HasOutline, IsOutlineParse}
use Rattle.parse_trees.specs.Outlines.{OutlineValue}
use Rattle.parse_trees.specs.FlatTrees.{FlatValue}
use Rattle.parse_trees.specs.Lex.{Lex, span_by, token_by}
use Rattle.parse_trees.specs.Lexemes.{AreItems, AreLexemes}
use Rattle.lrpar.specs.Made.{end_of, made_by}
use Rattle.lrpar.specs.Parses.{AllThree, ErrorValue, HasValue, IsParse, IsToldError}
use Rattle.lrpar.specs.Told.{IsFoldedOutcome, as_told, told_of}
use Rattle.lrpar.specs.declared.folded_parse.FoldedOutcome.{FoldedOutcome}
use Rattle.lrpar.specs.declared.folded_parse.FoldedOutcome.TheVariants as folded
use Rattle.lrpar.specs.declared.parse_error.ParseError.{ParseError}
use Rattle.state_table.specs.CellViews.{precedences_of}
use Rattle.state_table.specs.Graphs.{GraphValue}
use Rattle.state_table.specs.TableValues.{TableValue}
use Rattle.state_table.specs.Tables.{IsTableOf, automaton_of}
use Rattle.parser_kit.specs.KitParses.{IsExactParse, IsKitOutcome, IsKitParse, FollowsSentences, ItemsFollowSentences, LeavesNoTrace, WhereParsed}

no_end_of : {L : Type 0} (tok : L → ℕ) (e : ℕ) (xs : List L) → ((k : ℕ) (x : L) → slice_get xs k ≡ Some x → tok x < e) → AllByRecursion (λ y. tok y ≢ e) xs
no_end_of tok e [] h = tt
no_end_of tok e (x ∷ xs) h = let lt = h 0 x refl in (λ same. omega (arith, lt, same), no_end_of tok e xs (λ k y s. h (suc k) y s))

-- no errors, no places
pub no_places : {A B C : Type 0} (P : A → B → C → Type 0) (xs : List A) (ys : List B) (zs : List C) → AllThree P xs ys zs → zs ≡ [] → xs ≡ []
no_places P [] ys zs h e = refl
no_places P (x ∷ xs) [] zs h e = absurd h
no_places P (x ∷ xs) (y ∷ ys) [] h e = absurd h
no_places P (x ∷ xs) (y ∷ ys) (z ∷ zs) h e = cc

-- a parse without errors accepts at once
accepts_at_once : {L : Type 0} (G : Grammar) (a : Automaton) (tok : L → ℕ) (make : ℕ → List L → L) (c : Config L) (handed : List (List (List Edit))) (r : Option (Tree L)) (places : List (Config L)) (repaired : List L) →
    ParsesWith L G a tok make c handed r places repaired → places ≡ [] → (n : ℕ) × (t : Tree L) × (run G a tok n c ≡ accepted t)
accepts_at_once G a tok make c handed r places repaired (ParsesWith.accepts n t e h s w l) none = (n, t, e)
accepts_at_once G a tok make c handed r places repaired (ParsesWith.gives_up n d offered e refused h s w l) none = cc
accepts_at_once G a tok make c handed r places repaired (ParsesWith.repairs n d offered es further more e first h w p) none = cc

-- what is told of errors is told of as many as were found
pub told_none : {A B C : Type 0} (f : A → C) (g : B → C) (xs : List A) (ys : List B) → map f xs ≡ map g ys → xs ≡ [] → ys ≡ []
told_none f g xs [] e none = refl
told_none f g [] (y ∷ ys) e none = cc
told_none f g (x ∷ xs) (y ∷ ys) e none = cc

pub oks_same : {L E : Type 0} (xs ys : List L) → map {B = Result L E} Ok xs ≡ map Ok ys → xs ≡ ys
oks_same [] [] e = refl
oks_same [] (y ∷ ys) e = cc
oks_same (x ∷ xs) [] e = cc
oks_same {L = L} {E = E} (x ∷ xs) (y ∷ ys) e =
    let front : x ≡ y = cc in
    let rest : map {B = Result L E} Ok xs ≡ map Ok ys = cc in
    ap (λ z. z ∷ xs) front ∙ ap (λ zs. y ∷ zs) (oks_same xs ys rest)

-- ---- the table of a grammar

module _ (v : GrammarValue) (g : GraphValue) (u : TableValue) (good : WellFormed v.grammar) (is : IsTableOf v g u) where
  abbrev G : Grammar
  G = v.grammar

  abbrev a : Automaton
  a = automaton_of g u

  automaton : IsAutomatonOf G a
  automaton = built_law.automaton G (precedences_of v) a good is.built

  fills : FillsCells G a
  fills = built_law.fills G (precedences_of v) a good is.built

  closed : Closed G a
  closed = automaton_is_safe.closed G a good automaton

  present : HasPresent G a
  present = automaton_is_safe.present G a good automaton

  -- without precedences, each item's action stands in its cell exactly where none is listed
  pub complete_iff_unlisted : NoPrecedences (precedences_of v) → Complete G a ↔ IsNone u.conflicts
  complete_iff_unlisted none = subst (λ (o : Option Conflicts). Complete G a ↔ IsNone o) (sym is.conflicts) (list_law.unlisted G (precedences_of v) a good is.built none)

  uncontested : Complete G a → IsUncontested G
  uncontested complete = (complete_iff_uncontested.uncontested G a good automaton fills).0 complete

  pub exact : {L : Type 0} (tok : L → ℕ) (make : ℕ → List L → L) (answers : ℕ → ℕ → L → List (List Edit) → Type 0) (gives : Option (Tree L) → Type 0) (lexemes : List L) (errors : List (ErrorValue L)) →
      IsParse G a tok make answers gives lexemes errors → IsExactParse G a tok make answers gives lexemes errors
  exact tok make answers gives lexemes errors p = record {
    parse = p;
    fits = λ productive. p.fits present productive;
    flawless = λ complete t d. p.flawless closed complete t d;
    same_value = λ complete t e. p.same_value closed complete t e;
    true_errors = λ complete productive. p.true_errors closed complete present productive;
  }

  module _ {S L : Type 0} (number : S → ℕ) (lex : L → Lex) (make : ℕ → List L → L) (answers : ℕ → ℕ → L → List (List Edit) → Type 0) (gives : Option (Tree L) → Type 0) (lexemes : List L) (found : List (ErrorValue L))
      (complete : Complete G a) (are : AreLexemes G lex lexemes) (p : IsParse G a (token_by lex) make answers gives lexemes found) where
    abbrev tok : L → ℕ
    tok = token_by lex

    no_end : AllByRecursion (λ y. tok y ≢ end_token G) lexemes
    no_end = no_end_of tok (end_token G) lexemes are.inside

    accepted_then : found ≡ [] → (n : ℕ) × (t : Tree L) × (run G a tok n (start_config a lexemes) ≡ accepted t)
    accepted_then none = accepts_at_once G a tok make (start_config a lexemes) p.parsed.handed p.parsed.tree p.parsed.places p.parsed.repaired p.parsed.parses
        (no_places (IsToldError G a tok make answers lexemes) p.parsed.places p.parsed.handed found p.parsed.told none)

    to_sentence : found ≡ [] → IsSentence G (start_symbol G) (map tok lexemes)
    to_sentence none = ((machine_is_exact L).sentences G a tok lexemes good automaton fills (uncontested complete) no_end).1 (accepted_then none)

    from_sentence : IsSentence G (start_symbol G) (map tok lexemes) → found ≡ []
    from_sentence s =
        let h = ((machine_is_exact L).sentences G a tok lexemes good automaton fills (uncontested complete) no_end).0 s in
        (p.flawless closed complete h.1 ((machine_is_exact L).sound G a tok lexemes h.0 h.1 good automaton no_end h.2)).no_errors

    pub follows : (errors : List (ParseError L S)) → map (told_of number) errors ≡ map (as_told lexemes) found → FollowsSentences G tok gives lexemes errors
    follows errors told = record {
      sentences = (
        λ none. to_sentence (told_none (told_of number) (as_told lexemes) errors found told none),
        λ s. told_none (as_told lexemes) (told_of number) found errors (sym told) (from_sentence s),
      );
      value = λ t d. subst gives (p.flawless closed complete t d).is_tree p.parsed.gives_tree;
      only_tree = λ t w d e. (machine_is_exact L).only_tree G a tok lexemes t w good automaton fills (uncontested complete) d e;
    }

-- ---- a kit's parse, of lexemes of a list

module _ (d : ParserValue) (good : WellFormed d.grammar.grammar) (is : IsTableOf d.grammar d.graph d.table) where
  complete_of : NoPrecedences (precedences_of d.grammar) → IsNone d.table.conflicts → Complete d.grammar.grammar (automaton_of d.graph d.table)
  complete_of none unlisted = (complete_iff_unlisted d.grammar d.graph d.table good is none).1 unlisted

  pub kit_parse : {S L E : Type 0} (number : S → ℕ) (lex : L → Lex) (faulty : ℕ → ℕ → ℕ → L) (answers : ℕ → ℕ → L → List (List Edit) → Type 0) (items : List (Result L E)) (gives : Option (Tree L) → Type 0) (errors : List (ParseError L S))
      (lexemes : List L) (found : List (ErrorValue L)) → AreItems items lexemes → AreLexemes d.grammar.grammar lex lexemes →
      IsParse d.grammar.grammar (automaton_of d.graph d.table) (token_by lex) (made_by faulty lex (end_of lex lexemes)) answers gives lexemes found →
      map (told_of number) errors ≡ map (as_told lexemes) found → IsKitParse number lex faulty d answers items gives errors
  kit_parse number lex faulty answers items gives errors lexemes found are_items are p told = record {
    lexemes = lexemes;
    are_items = are_items;
    are_lexemes = are;
    found = found;
    exact = exact d.grammar d.graph d.table good is (token_by lex) (made_by faulty lex (end_of lex lexemes)) answers gives lexemes found p;
    told = told;
  }

  pub items_follow : {S L E : Type 0} (number : S → ℕ) (lex : L → Lex) (faulty : ℕ → ℕ → ℕ → L) (answers : ℕ → ℕ → L → List (List Edit) → Type 0) (items : List (Result L E)) (gives : Option (Tree L) → Type 0) (errors : List (ParseError L S)) →
      NoPrecedences (precedences_of d.grammar) → IsNone d.table.conflicts → IsKitParse number lex faulty d answers items gives errors → ItemsFollowSentences lex d.grammar.grammar items gives errors
  items_follow {S = S} {L = L} {E = E} number lex faulty answers items gives errors none unlisted k lexemes are =
      let same : k.lexemes ≡ lexemes = oks_same {L = L} {E = E} k.lexemes lexemes (sym k.are_items ∙ are) in
      subst (λ xs. FollowsSentences d.grammar.grammar (token_by lex) gives xs errors) same
      (follows d.grammar d.graph d.table good is {S = S} {L = L} number lex (made_by faulty lex (end_of lex k.lexemes)) answers gives k.lexemes k.found (complete_of none unlisted) k.are_lexemes k.exact.parse errors k.told)

  pub no_trace : {S L E : Type 0} (number : S → ℕ) (lex : L → Lex) (faulty : ℕ → ℕ → ℕ → L) (answers : ℕ → ℕ → L → List (List Edit) → Type 0) (items : List (Result L E)) (gives : Option (Tree L) → Type 0) (errors : List (ParseError L S)) →
      NoPrecedences (precedences_of d.grammar) → IsNone d.table.conflicts → AllProductive d.grammar.grammar → IsKitParse number lex faulty d answers items gives errors → LeavesNoTrace number lex faulty d answers items gives errors
  no_trace number lex faulty answers items gives errors none unlisted productive k = record {
    lexemes = k.lexemes;
    are_items = k.are_items;
    found = k.found;
    parse = k.exact.parse;
    told = k.told;
    same_value = λ t e. k.exact.same_value (complete_of none unlisted) t e;
    true_errors = k.exact.true_errors (complete_of none unlisted) productive;
  }

  pub told_parse : {S L E : Type 0} (number : S → ℕ) (lex : L → Lex) (faulty : ℕ → ℕ → ℕ → L) (answers : ℕ → ℕ → L → List (List Edit) → Type 0) {V : Type 0} (by : Answers L V) (items : List (Result L E)) (o : FoldedOutcome S L E V) →
      IsFoldedOutcome number lex faulty d.grammar.grammar d.graph d.table by answers items o → IsKitOutcome number lex faulty d by answers items o
  told_parse number lex faulty answers by items (folded.Fault e) h = h
  told_parse number lex faulty answers by items (folded.Parsed value es) h =
      kit_parse number lex faulty answers items (HasValue d.grammar.grammar by (span_by lex) value) es.items h.lexemes h.found h.are_items h.are_lexemes h.parse h.told

  pub outcome_follows : {S L E : Type 0} (number : S → ℕ) (lex : L → Lex) (faulty : ℕ → ℕ → ℕ → L) (answers : ℕ → ℕ → L → List (List Edit) → Type 0) {V : Type 0} (by : Answers L V) (items : List (Result L E)) →
      NoPrecedences (precedences_of d.grammar) → IsNone d.table.conflicts → (o : FoldedOutcome S L E V) → IsKitOutcome number lex faulty d by answers items o →
      WhereParsed (λ value errors. ItemsFollowSentences lex d.grammar.grammar items (HasValue d.grammar.grammar by (span_by lex) value) errors) o
  outcome_follows number lex faulty answers by items none unlisted (folded.Fault e) h = tt
  outcome_follows number lex faulty answers by items none unlisted (folded.Parsed value es) h =
      items_follow number lex faulty answers items (HasValue d.grammar.grammar by (span_by lex) value) es.items none unlisted h

  pub outcome_traceless : {S L E : Type 0} (number : S → ℕ) (lex : L → Lex) (faulty : ℕ → ℕ → ℕ → L) (answers : ℕ → ℕ → L → List (List Edit) → Type 0) {V : Type 0} (by : Answers L V) (items : List (Result L E)) →
      NoPrecedences (precedences_of d.grammar) → IsNone d.table.conflicts → AllProductive d.grammar.grammar → (o : FoldedOutcome S L E V) → IsKitOutcome number lex faulty d by answers items o →
      WhereParsed (λ value errors. LeavesNoTrace number lex faulty d answers items (HasValue d.grammar.grammar by (span_by lex) value) errors) o
  outcome_traceless number lex faulty answers by items none unlisted productive (folded.Fault e) h = tt
  outcome_traceless number lex faulty answers by items none unlisted productive (folded.Parsed value es) h =
      no_trace number lex faulty answers items (HasValue d.grammar.grammar by (span_by lex) value) es.items none unlisted productive h

  pub flat_parse : {S L E : Type 0} (number : S → ℕ) (lex : L → Lex) (faulty : ℕ → ℕ → ℕ → L) (answers : ℕ → ℕ → L → List (List Edit) → Type 0) (items : List (Result L E)) (value : Option (FlatValue L)) (errors : List (ParseError L S)) →
      IsFlatParse number lex faulty d.grammar.grammar d.graph d.table answers items value errors → IsKitParse number lex faulty d answers items (HasFlat (span_by lex) value) errors
  flat_parse number lex faulty answers items value errors h =
      kit_parse number lex faulty answers items (HasFlat (span_by lex) value) errors h.lexemes h.found h.are_items h.are_lexemes h.parse h.told

  -- ---- the same of answers that may be refused

  module _ {S L E F : Type 0} (number : S → ℕ) (lex : L → Lex) (faulty : ℕ → ℕ → ℕ → L) (answers : ℕ → ℕ → L → List (List Edit) → Type 0) (items : List (Result L E)) where
    pub told_ok : {V : Type 0} (by : Answers L V) (r : Result (FoldedOutcome S L E V) F) →
        IfOk r (IsFoldedOutcome number lex faulty d.grammar.grammar d.graph d.table by answers items) → IfOk r (IsKitOutcome number lex faulty d by answers items)
    told_ok by (Ok o) h = told_parse number lex faulty answers by items o h
    told_ok by (Err e) h = tt

    pub told_follows : {V : Type 0} (by : Answers L V) (r : Result (FoldedOutcome S L E V) F) →
        IfOk r (IsFoldedOutcome number lex faulty d.grammar.grammar d.graph d.table by answers items) → NoPrecedences (precedences_of d.grammar) → IsNone d.table.conflicts →
        IfOk r (WhereParsed (λ value errors. ItemsFollowSentences lex d.grammar.grammar items (HasValue d.grammar.grammar by (span_by lex) value) errors))
    told_follows by (Ok o) h none unlisted = outcome_follows number lex faulty answers by items none unlisted o (told_parse number lex faulty answers by items o h)
    told_follows by (Err e) h none unlisted = tt

    pub told_traceless : {V : Type 0} (by : Answers L V) (r : Result (FoldedOutcome S L E V) F) →
        IfOk r (IsFoldedOutcome number lex faulty d.grammar.grammar d.graph d.table by answers items) → NoPrecedences (precedences_of d.grammar) → IsNone d.table.conflicts → AllProductive d.grammar.grammar →
        IfOk r (WhereParsed (λ value errors. LeavesNoTrace number lex faulty d answers items (HasValue d.grammar.grammar by (span_by lex) value) errors))
    told_traceless by (Ok o) h none unlisted productive = outcome_traceless number lex faulty answers by items none unlisted productive o (told_parse number lex faulty answers by items o h)
    told_traceless by (Err e) h none unlisted productive = tt

    pub flat_ok : (r : Result (Result (Option (FlatValue L) × Vec (ParseError L S) Global) E) F) →
        IfOk r (λ s. IfOk s (λ p. IsFlatParse number lex faulty d.grammar.grammar d.graph d.table answers items p.0 p.1.items)) →
        IfOk r (λ s. IfOk s (λ p. IsKitParse number lex faulty d answers items (HasFlat (span_by lex) p.0) p.1.items))
    flat_ok (Ok (Ok p)) h = flat_parse number lex faulty answers items p.0 p.1.items h
    flat_ok (Ok (Err e)) h = tt
    flat_ok (Err e) h = tt

    pub flat_follows : (r : Result (Result (Option (FlatValue L) × Vec (ParseError L S) Global) E) F) →
        IfOk r (λ s. IfOk s (λ p. IsFlatParse number lex faulty d.grammar.grammar d.graph d.table answers items p.0 p.1.items)) → NoPrecedences (precedences_of d.grammar) → IsNone d.table.conflicts →
        IfOk r (λ s. IfOk s (λ p. ItemsFollowSentences lex d.grammar.grammar items (HasFlat (span_by lex) p.0) p.1.items))
    flat_follows (Ok (Ok p)) h none unlisted = items_follow number lex faulty answers items (HasFlat (span_by lex) p.0) p.1.items none unlisted (flat_parse number lex faulty answers items p.0 p.1.items h)
    flat_follows (Ok (Err e)) h none unlisted = tt
    flat_follows (Err e) h none unlisted = tt

    pub flat_traceless : (r : Result (Result (Option (FlatValue L) × Vec (ParseError L S) Global) E) F) →
        IfOk r (λ s. IfOk s (λ p. IsFlatParse number lex faulty d.grammar.grammar d.graph d.table answers items p.0 p.1.items)) → NoPrecedences (precedences_of d.grammar) → IsNone d.table.conflicts → AllProductive d.grammar.grammar →
        IfOk r (λ s. IfOk s (λ p. LeavesNoTrace number lex faulty d answers items (HasFlat (span_by lex) p.0) p.1.items))
    flat_traceless (Ok (Ok p)) h none unlisted productive = no_trace number lex faulty answers items (HasFlat (span_by lex) p.0) p.1.items none unlisted productive (flat_parse number lex faulty answers items p.0 p.1.items h)
    flat_traceless (Ok (Err e)) h none unlisted productive = tt
    flat_traceless (Err e) h none unlisted productive = tt

    pub outline_ok : (r : Result (Result (Option OutlineValue × Vec (ParseError L S) Global) E) F) →
        IfOk r (λ s. IfOk s (λ p. IsOutlineParse number lex faulty d.grammar.grammar d.graph d.table answers items p.0 p.1.items)) →
        IfOk r (λ s. IfOk s (λ p. IsKitParse number lex faulty d answers items (HasOutline p.0) p.1.items))
    outline_ok (Ok (Ok p)) h = kit_parse number lex faulty answers items (HasOutline p.0) p.1.items h.lexemes h.found h.are_items h.are_lexemes h.parse h.told
    outline_ok (Ok (Err e)) h = tt
    outline_ok (Err e) h = tt
