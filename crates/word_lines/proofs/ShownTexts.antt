-- That the errors and the tree of a parse can be shown over the text of its lexemes.
use Rattle.std.proofs.Common.{◌≡◌, ◌≢◌, ℕ, zero, suc, ◌+◌, ◌-◌, ◌<◌, ◌≤◌, true, List, [], ◌∷◌, ◌++◌, length, map, drop, get_or, Option, None, Some, refl, sym, subst, arith}
use Rattle.std.specs.Prelude.{slice_get}
use Rattle.std.specs.List.{AllByRecursion}
use Rattle.std.specs.Str.{IsCharBoundary}
use Rattle.std.proofs.lemmas.Str.{IsCharBoundary-start}
use Rattle.cfg_numbered.specs.Value.{GrammarValue}
use Rattle.cfg_theory.specs.Grammar.{Grammar, Sym, rule, token, WellFormed, end_token, body_of, start_symbol, head_of}
use Rattle.cfg_theory.specs.Tree.{Tree, leaf, node, Forest, none, before, root, roots, IsTree, AreTrees}
use Rattle.lr_theory.specs.Automaton.{Action, shift, reduce, accept, error, Automaton}
use Rattle.lr_theory.specs.HandedRepairs.{ParsesWith}
use Rattle.lr_theory.specs.Machine.{Config, Outcome, going, accepted, failed, stuck, next_or, pop, after_shift, after_goto, after_pop, after_accept, act, step_on, step, then_run, run}
use Rattle.lr_theory.specs.Repair.{Edit, insert, delete, keep, with_first, apply}
use Rattle.state_table.specs.Tables.{automaton_of}
use Rattle.parse_trees.specs.ErrorTexts.{EditFits, FitsInput}
use Rattle.parse_trees.specs.FlatLines.{CanShowTree, CanShowForest}
use Rattle.lrpar.specs.FlatParses.{HasFlat}
use Rattle.parse_trees.specs.FlatTrees.{FlatValue, IsFlat}
use Rattle.parse_trees.specs.Lex.{Lex, lex_at, span_by, token_by}
use Rattle.lrpar.specs.Made.{next_start, end_from, end_of, made_by, next_lexeme}
use Rattle.lrpar.specs.Parses.{AllThree, ErrorValue, IsParse, IsToldError}
use Rattle.parse_trees.specs.Shown.{shown}
use Rattle.lrpar.specs.Told.{ToldError, told_of, as_told}
use Rattle.lrpar.specs.declared.parse_error.ParseError.{ParseError}
use Rattle.word_lines.specs.ShownTexts.{FitsText, InsertsWithin, MakesWithin, ValueFits, ParseErrorFits, ParsesCanBeShown, FlatParsesCanBeShown}

-- ---- lists

all_append : {X : Type 0} (P : X → Type 0) (xs ys : List X) → AllByRecursion P xs → AllByRecursion P ys → AllByRecursion P (xs ++ ys)
all_append P [] ys h k = k
all_append P (x ∷ xs) ys h k = (h.0, all_append P xs ys h.1 k)

all_at : {X : Type 0} (P : X → Type 0) (xs : List X) (x : X) (ys : List X) → AllByRecursion P (xs ++ x ∷ ys) → P x
all_at P [] x ys h = h.0
all_at P (z ∷ xs) x ys h = all_at P xs x ys h.1

all_drop : {X : Type 0} (P : X → Type 0) (n : ℕ) (xs : List X) → AllByRecursion P xs → AllByRecursion P (drop n xs)
all_drop P zero xs h = h
all_drop P (suc n) [] h = tt
all_drop P (suc n) (x ∷ xs) h = all_drop P n xs h.1

all_by_place : {X : Type 0} (P : X → Type 0) (xs : List X) → ((k : ℕ) (x : X) → slice_get xs k ≡ Some x → P x) → AllByRecursion P xs
all_by_place P [] h = tt
all_by_place P (x ∷ xs) h = (h 0 x refl, all_by_place P xs (λ k y e. h (suc k) y e))

-- ---- what holds of all lexemes of a run

module _ {L : Type 0} (P : L → Type 0) where
  abbrev mutual
    AllLeaves : Tree L → Type 0
    AllLeaves (leaf x) = P x
    AllLeaves (node p f) = AllLeavesIn f

    AllLeavesIn : Forest L → Type 0
    AllLeavesIn none = Unit {0}
    AllLeavesIn (before t f) = AllLeaves t × AllLeavesIn f

  abbrev Holds : Config L → Type 0
  Holds c = AllByRecursion AllLeaves c.trees × AllByRecursion P c.rest

  abbrev Good : Outcome L → Type 0
  Good (going c) = Holds c
  Good (accepted t) = AllLeaves t
  Good (failed c) = Holds c
  Good stuck = Unit {0}

  abbrev Popped : Option (Forest L × List (Tree L)) → Type 0
  Popped None = Unit {0}
  Popped (Some (f, ts)) = AllLeavesIn f × AllByRecursion AllLeaves ts

  abbrev TreeGood : Option (Tree L) → Type 0
  TreeGood None = Unit {0}
  TreeGood (Some t) = AllLeaves t

  abbrev Applied : Option (List L × List L) → Type 0
  Applied None = Unit {0}
  Applied (Some r) = AllByRecursion P r.0 × AllByRecursion P r.1

  pop_good : (n : ℕ) (ts : List (Tree L)) (f : Forest L) → AllByRecursion AllLeaves ts → AllLeavesIn f → Popped (pop n ts f)
  pop_good zero ts f hs hf = (hf, hs)
  pop_good (suc n) [] f hs hf = tt
  pop_good (suc n) (t ∷ ts) f hs hf = pop_good n ts (before t f) hs.1 (hs.0, hf)

  module _ (G : Grammar) (a : Automaton) (tok : L → ℕ) where
    shift_good : (q : ℕ) (ss : List ℕ) (ts : List (Tree L)) (xs : List L) → AllByRecursion AllLeaves ts → AllByRecursion P xs → Good (after_shift q ss ts xs)
    shift_good q ss ts [] hs h = tt
    shift_good q ss ts (x ∷ xs) hs h = ((h.0, hs), h.1)

    goto_good : (o : Option ℕ) (ss : List ℕ) (ts : List (Tree L)) (xs : List L) → AllByRecursion AllLeaves ts → AllByRecursion P xs → Good (after_goto o ss ts xs)
    goto_good None ss ts xs hs h = tt
    goto_good (Some q) ss ts xs hs h = (hs, h)

    reduce_good : (p : ℕ) (ss : List ℕ) (popped : Option (Forest L × List (Tree L))) (xs : List L) → Popped popped → AllByRecursion P xs → Good (after_pop G a p ss popped xs)
    reduce_good p [] popped xs k h = tt
    reduce_good p (s ∷ ss) None xs k h = tt
    reduce_good p (s ∷ ss) (Some (f, ts)) xs k h = goto_good (a.goto s (head_of G p)) (s ∷ ss) (node p f ∷ ts) xs (k.0, k.1) h

    accept_good : (ts : List (Tree L)) → AllByRecursion AllLeaves ts → Good (after_accept ts)
    accept_good [] hs = tt
    accept_good (t ∷ []) hs = hs.0
    accept_good (t ∷ u ∷ ts) hs = tt

    act_good : (x : Action) (ss : List ℕ) (ts : List (Tree L)) (xs : List L) → AllByRecursion AllLeaves ts → AllByRecursion P xs → Good (act G a x ss ts xs)
    act_good (shift q) ss ts xs hs h = shift_good q ss ts xs hs h
    act_good (reduce p) ss ts xs hs h = reduce_good p (drop (length (body_of G p)) ss) (pop (length (body_of G p)) ts none) xs (pop_good (length (body_of G p)) ts none hs tt) h
    act_good accept ss ts xs hs h = accept_good ts hs
    act_good error ss ts xs hs h = (hs, h)

    step_good : (ss : List ℕ) (ts : List (Tree L)) (xs : List L) → AllByRecursion AllLeaves ts → AllByRecursion P xs → Good (step_on G a tok ss ts xs)
    step_good [] ts xs hs h = tt
    step_good (s ∷ ss) ts xs hs h = act_good (a.action s (next_or tok (end_token G) xs)) (s ∷ ss) ts xs hs h

    then_good : (o : Outcome L) (f : Config L → Outcome L) → Good o → ((c : Config L) → Holds c → Good (f c)) → Good (then_run o f)
    then_good (going c) f h k = k c h
    then_good (accepted t) f h k = h
    then_good (failed c) f h k = h
    then_good stuck f h k = tt

    run_good : (n : ℕ) (c : Config L) → Holds c → Good (run G a tok n c)
    run_good zero c h = h
    run_good (suc n) c h = then_good (step G a tok c) (run G a tok n) (step_good c.states c.trees c.rest h.0 h.1) (run_good n)

    module _ (top : ℕ) (make : ℕ → List L → L) (made : (t : ℕ) (xs : List L) → t ≤ top → AllByRecursion P xs → P (make t xs)) where
      first_good : (y : L) (o : Option (List L × List L)) → P y → Applied o → Applied (with_first y o)
      first_good y None h k = tt
      first_good y (Some r) h k = ((h, k.0), k.1)

      apply_good : (es : List Edit) (xs : List L) → InsertsWithin top es → AllByRecursion P xs → Applied (apply make es xs)
      apply_good [] xs i h = (tt, h)
      apply_good (insert t ∷ es) xs i h = first_good (make t xs) (apply make es xs) (made t xs i.0 h) (apply_good es xs i.1 h)
      apply_good (delete ∷ es) [] i h = tt
      apply_good (delete ∷ es) (x ∷ xs) i h = apply_good es xs i h.1
      apply_good (keep ∷ es) [] i h = tt
      apply_good (keep ∷ es) (x ∷ xs) i h = first_good x (apply make es xs) h.0 (apply_good es xs i h.1)

      parse_good : {c : Config L} {handed : List (List (List Edit))} {r : Option (Tree L)} {errors : List (Config L)} {lexemes : List L} → ParsesWith L G a tok make c handed r errors lexemes →
          Holds c → AllByRecursion (AllByRecursion (InsertsWithin top)) handed → TreeGood r
      parse_good {c} (ParsesWith.accepts n t e h s w l) holds all = subst TreeGood (sym s) (subst Good e (run_good n c holds))
      parse_good {c} (ParsesWith.gives_up n d offered e refused h s w l) holds all = subst TreeGood (sym s) tt
      parse_good {c} (ParsesWith.repairs n d offered es further more e first h w p) holds all =
          let here : Holds d = subst Good e (run_good n c holds) in
          let lists = subst (AllByRecursion (AllByRecursion (InsertsWithin top))) h all in
          let within = all_at (InsertsWithin top) first.earlier es first.later (subst (AllByRecursion (InsertsWithin top)) first.is_offered lists.0) in
          let put = subst Applied first.takes.applied (apply_good es d.rest within here.1) in
          parse_good p (here.0, all_append P first.takes.put first.takes.left put.0 put.1) lists.1

-- ---- trees that can be shown

module _ {L : Type 0} (g : GrammarValue) (lex : L → Lex) (input : List ℕ) (good : WellFormed g.grammar) where
  abbrev RootFits : Sym → Type 0
  RootFits (rule A) = Unit {0}
  RootFits (token t) = t < end_token g.grammar

  in_body : (p d : ℕ) (X : Sym) → slice_get (body_of g.grammar p) d ≡ Some X → RootFits X
  in_body p d (rule A) e = tt
  in_body p d (token t) e =
      let lt : t < g.grammar.tokens = good.symbols p d (token t) (record { at = e }) in
      let other : t ≢ end_token g.grammar = λ same. good.no_end p d t same (record { at = e }) in
      below t g.grammar.tokens lt other
    where
      below : (t n : ℕ) → t < n → t ≢ n - 1 → t < n - 1
      below t n lt other = grind arith

  mutual
    show_tree : (t : Tree L) → AllLeaves (FitsText input lex) t → IsTree g.grammar (token_by lex) t → RootFits (root g.grammar (token_by lex) t) → CanShowTree g lex input t
    show_tree (leaf x) h i r = record { token = r; start = h.starts; end = h.ends }
    show_tree (node p f) h i r = (i.0, show_forest f h i.2 (subst (AllByRecursion RootFits) (sym i.1) (all_by_place RootFits (body_of g.grammar p) (in_body p))))

    show_forest : (f : Forest L) → AllLeavesIn (FitsText input lex) f → AreTrees g.grammar (token_by lex) f → AllByRecursion RootFits (roots g.grammar (token_by lex) f) → CanShowForest g lex input f
    show_forest none h i r = tt
    show_forest (before t f) h i r = (show_tree t h.0 i.0 r.0, show_forest f h.1 i.1 r.1)

  start_fits : RootFits (start_symbol g.grammar)
  start_fits = let s = good.start_rule in subst (λ (ys : List Sym). RootFits (get_or ys 0 (rule 0))) (sym s.1) tt

-- ---- lexemes of a text

module _ {L : Type 0} (lex : L → Lex) (input : List ℕ) where
  end_fits : (xs : List L) (end : ℕ) → IsCharBoundary input end → AllByRecursion (FitsText input lex) xs → IsCharBoundary input (end_from lex end xs)
  end_fits [] end b h = b
  end_fits (x ∷ xs) end b h = end_fits xs (lex x).places.end h.0.ends h.1

  next_fits : (xs : List L) (end : ℕ) → IsCharBoundary input end → AllByRecursion (FitsText input lex) xs → IsCharBoundary input (next_start lex end xs)
  next_fits [] end b h = b
  next_fits (x ∷ xs) end b h = h.0.starts

  shown_fit : (es : List Edit) (xs : List L) → AllByRecursion (FitsText input lex) xs → AllByRecursion (EditFits input lex) (shown es xs)
  shown_fit [] xs h = tt
  shown_fit (insert t ∷ es) xs h = (tt, shown_fit es xs h)
  shown_fit (delete ∷ es) [] h = tt
  shown_fit (delete ∷ es) (x ∷ xs) h = (h.0, shown_fit es xs h.1)
  shown_fit (keep ∷ es) [] h = tt
  shown_fit (keep ∷ es) (x ∷ xs) h = (h.0, shown_fit es xs h.1)

  all_shown_fit : (rs : List (List Edit)) (xs : List L) → AllByRecursion (FitsText input lex) xs → AllByRecursion (λ es. AllByRecursion (EditFits input lex) (shown es xs)) rs
  all_shown_fit [] xs h = tt
  all_shown_fit (es ∷ rs) xs h = (shown_fit es xs h, all_shown_fit rs xs h)

  empty_fits : (t s : ℕ) → IsCharBoundary input s → FitsInput input (lex_at t s 0 true).places.start (lex_at t s 0 true).places.end
  empty_fits t s b = let same : s ≡ s + 0 = omega arith in record { ordered = omega arith; starts = b; ends = subst (IsCharBoundary input) same b }

  made_fits : (top : ℕ) (faulty : ℕ → ℕ → ℕ → L) → ((t start len : ℕ) → t ≤ top → lex (faulty t start len) ≡ lex_at t start len true) → (end : ℕ) → IsCharBoundary input end →
      (t : ℕ) (xs : List L) → t ≤ top → AllByRecursion (FitsText input lex) xs → FitsText input lex (made_by faulty lex end t xs)
  made_fits top faulty makes end b t xs le h =
      subst (λ (l : Lex). FitsInput input l.places.start l.places.end) (sym (makes t (next_start lex end xs) 0 le)) (empty_fits t (next_start lex end xs) (next_fits xs end b h))

module _ {L : Type 0} (top : ℕ) (g : GrammarValue) (a : Automaton) (lex : L → Lex) (faulty : ℕ → ℕ → ℕ → L) (answers : ℕ → ℕ → L → List (List Edit) → Type 0) (gives : Option (Tree L) → Type 0) (input : List ℕ)
    (lexemes : List L) (found : List (ErrorValue L)) (within : MakesWithin top g lex faulty answers input) (fit : AllByRecursion (FitsText input lex) lexemes)
    (p : IsParse g.grammar a (token_by lex) (made_by faulty lex (end_of lex lexemes)) answers gives lexemes found) where
  abbrev make : ℕ → List L → L
  make = made_by faulty lex (end_of lex lexemes)

  at_end : IsCharBoundary input (end_of lex lexemes)
  at_end = end_fits lex input lexemes 0 (IsCharBoundary-start input within.text) fit

  made : (t : ℕ) (xs : List L) → t ≤ top → AllByRecursion (FitsText input lex) xs → FitsText input lex (make t xs)
  made = made_fits lex input top faulty within.makes (end_of lex lexemes) at_end

  next_good : (xs : List L) → AllByRecursion (FitsText input lex) xs → FitsText input lex (next_lexeme g.grammar make xs)
  next_good [] h = made (end_token g.grammar) [] within.end tt
  next_good (x ∷ xs) h = h.0

  abbrev Told : Config L → List (List Edit) → ErrorValue L → Type 0
  Told = IsToldError g.grammar a (token_by lex) make answers lexemes

  value_fits : (d : Config L) (offered : List (List Edit)) (e : ErrorValue L) → Told d offered e → ValueFits input lex lexemes e
  value_fits d offered e h =
      let rest = all_drop (FitsText input lex) e.index lexemes fit in
      let next : FitsText input lex e.lexeme = subst (FitsText input lex) (sym h.lexeme) (next_good d.rest (subst (AllByRecursion (FitsText input lex)) (sym h.index) rest)) in
      (next.ends.0, all_shown_fit lex input e.repairs (drop e.index lexemes) rest)

  values_fit : (ds : List (Config L)) (hs : List (List (List Edit))) (es : List (ErrorValue L)) → AllThree Told ds hs es → AllByRecursion (ValueFits input lex lexemes) es
  values_fit [] [] [] h = tt
  values_fit [] [] (e ∷ es) h = absurd h
  values_fit [] (x ∷ hs) es h = absurd h
  values_fit (d ∷ ds) [] es h = absurd h
  values_fit (d ∷ ds) (x ∷ hs) [] h = absurd h
  values_fit (d ∷ ds) (x ∷ hs) (e ∷ es) h = (value_fits d x e h.0, values_fit ds hs es h.1)

  handed_within : (ds : List (Config L)) (hs : List (List (List Edit))) (es : List (ErrorValue L)) → AllThree Told ds hs es → AllByRecursion (AllByRecursion (InsertsWithin top)) hs
  handed_within [] [] es h = tt
  handed_within [] (x ∷ hs) es h = absurd h
  handed_within (d ∷ ds) [] es h = tt
  handed_within (d ∷ ds) (x ∷ hs) [] h = absurd h
  handed_within (d ∷ ds) (x ∷ hs) (e ∷ es) h = (within.inserts e.state e.index e.lexeme x h.0.handed_in, handed_within ds hs es h.1)

  errors_fit : AllByRecursion (ValueFits input lex lexemes) found
  errors_fit = values_fit p.parsed.places p.parsed.handed found p.parsed.told

  tree_shows : (t : Tree L) → p.parsed.tree ≡ Some t → CanShowTree g lex input t
  tree_shows t e =
      let leaves : AllLeaves (FitsText input lex) t = subst (TreeGood (FitsText input lex)) e (parse_good (FitsText input lex) g.grammar a (token_by lex) top make made p.parsed.parses (tt, fit) (handed_within p.parsed.places p.parsed.handed found p.parsed.told)) in
      let d = p.derives t e in
      show_tree g lex input within.well_formed t leaves d.is_tree (subst (RootFits g lex input within.well_formed) (sym d.root_is) (start_fits g lex input within.well_formed))

pub parses_can_be_shown : (L : Type 0) (answers : ℕ → ℕ → L → List (List Edit) → Type 0) (gives : Option (Tree L) → Type 0) → ParsesCanBeShown L answers gives
parses_can_be_shown L answers gives = record {
  errors = λ top g a lex faulty input lexemes found within fit p. errors_fit top g a lex faulty answers gives input lexemes found within fit p;
  tree = λ top g a lex faulty input lexemes found within fit p t e. tree_shows top g a lex faulty answers gives input lexemes found within fit p t e;
}

-- ---- as they are handed out

module _ {S L : Type 0} (number : S → ℕ) (lex : L → Lex) (input : List ℕ) (lexemes : List L) where
  abbrev ToldFits : ToldError L → Type 0
  ToldFits x = ((lex x.lexeme).places.end ≤ length input) × AllByRecursion (AllByRecursion (EditFits input lex)) x.repairs

  of_lists : (rs : List (List Edit)) (xs : List L) → AllByRecursion (λ es. AllByRecursion (EditFits input lex) (shown es xs)) rs → AllByRecursion (AllByRecursion (EditFits input lex)) (map (λ es. shown es xs) rs)
  of_lists [] xs h = tt
  of_lists (es ∷ rs) xs h = (h.0, of_lists rs xs h.1)

  as_told_fits : (found : List (ErrorValue L)) → AllByRecursion (ValueFits input lex lexemes) found → AllByRecursion ToldFits (map (as_told lexemes) found)
  as_told_fits [] h = tt
  as_told_fits (e ∷ found) h = ((h.0.0, of_lists e.repairs (drop e.index lexemes) h.0.1), as_told_fits found h.1)

  told_fits : (errors : List (ParseError L S)) → AllByRecursion ToldFits (map (told_of number) errors) → AllByRecursion (ParseErrorFits number input lex) errors
  told_fits [] h = tt
  told_fits (e ∷ errors) h = (h.0, told_fits errors h.1)

flat_tree : {L : Type 0} (g : GrammarValue) (lex : L → Lex) (input : List ℕ) (v : FlatValue L) (o : Option (Tree L)) → HasFlat (span_by lex) (Some v) o → ((t : Tree L) → o ≡ Some t → CanShowTree g lex input t) →
    (t : Tree L) × IsFlat (span_by lex) t v.pieces × CanShowTree g lex input t
flat_tree g lex input v None h k = absurd h
flat_tree g lex input v (Some t) h k = (t, h, k t refl)

pub flat_parses_can_be_shown : (S L E : Type 0) (answers : ℕ → ℕ → L → List (List Edit) → Type 0) → FlatParsesCanBeShown S L E answers
flat_parses_can_be_shown S L E answers = record {
  errors = λ top number g graph table lex faulty input items value errors within fit q.
      told_fits number lex input q.lexemes errors (subst (AllByRecursion (ToldFits number lex input q.lexemes)) (sym q.told) (as_told_fits number lex input q.lexemes q.found
      (errors_fit top g (automaton_of graph table) lex faulty answers (HasFlat (span_by lex) value) input q.lexemes q.found within (fit q.lexemes q.are_items) q.parse)));
  tree = λ top number g graph table lex faulty input items v errors within fit q.
      flat_tree g lex input v q.parse.parsed.tree q.parse.parsed.gives_tree
      (tree_shows top g (automaton_of graph table) lex faulty answers (HasFlat (span_by lex) (Some v)) input q.lexemes q.found within (fit q.lexemes q.are_items) q.parse);
}
