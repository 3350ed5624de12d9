-- Kits of one text parse alike.
use Rattle.std.proofs.Common.{◌≡◌, ℕ, ◌-◌, List, [], ◌∷◌, ◌++◌, length, get_or, map, Option, Result, refl, sym, ap, ◌∙◌, subst, arith, length-drop}
use Rattle.std.specs.List.{AllByRecursion}
use Rattle.cfg_theory.specs.Grammar.{Grammar}
use Rattle.cfg_theory.specs.Tree.{Tree}
use Rattle.lr_theory.specs.Automaton.{Automaton}
use Rattle.lr_theory.specs.HandedRepairs.{ParsesWith}
use Rattle.lr_theory.specs.Machine.{Config, start_config}
use Rattle.lr_theory.specs.Repair.{Edit, IsFirstTaken, Parses, Takes, with_rest}
use Rattle.lr_theory.proofs.OneAnswer.{repaired_parses_are_unique}
use Rattle.lrpar.specs.Checked.{ParserValue}
use Rattle.parse_trees.specs.Lex.{Lex, token_by}
use Rattle.lrpar.specs.Made.{end_of, made_by, next_lexeme}
use Rattle.lrpar.specs.ParseLaws.{ParsesAreOne, bare}
use Rattle.lrpar.specs.Parses.{AllThree, ErrorValue, IsParsed, IsToldError}
use Rattle.lrpar.specs.Told.{as_told, told_of}
use Rattle.lrpar.specs.declared.parse_error.ParseError.{ParseError}
use Rattle.state_table.specs.Tables.{automaton_of}
use Rattle.parser_kit.specs.KitParses.{IsKitParse, ParseAlike}
use Rattle.parser_kit.proofs.KitParses.{oks_same}

head_same : {X : Type 0} (x y : X) (xs ys : List X) → x ∷ xs ≡ y ∷ ys → x ≡ y
head_same x y xs ys e = cc

tail_same : {X : Type 0} (x y : X) (xs ys : List X) → x ∷ xs ≡ y ∷ ys → xs ≡ ys
tail_same x y xs ys e = cc

-- ---- what is handed in is a function of the errors

module _ (L : Type 0) (G : Grammar) (a : Automaton) (tok : L → ℕ) (make : ℕ → List L → L) (offers : Config L → List (List Edit)) where
  by_offers : {c : Config L} {handed : List (List (List Edit))} {r : Option (Tree L)} {errors : List (Config L)} {lexemes : List L} → ParsesWith L G a tok make c handed r errors lexemes → map offers errors ≡ handed → Parses L G a tok make offers c r errors lexemes
  by_offers (ParsesWith.accepts n t h z i j k) e = Parses.accepts n t h i j k
  by_offers (ParsesWith.gives_up n d offered h refused z i j k) e =
      let same : offers d ∷ [] ≡ offered ∷ [] = sym (ap (map offers) j) ∙ e ∙ z in
      let P : List (List Edit) → Type 0 = AllByRecursion (λ es. Takes G a tok make d es → ⊥) in
      Parses.gives_up n d h (subst P (sym (head_same (offers d) offered [] [] same)) refused) i j k
  by_offers {c} {handed} {r} {errors} {lexemes} (ParsesWith.repairs n d offered es further more h first z j p) e =
      let same : offers d ∷ map offers more ≡ offered ∷ further = sym (ap (map offers) j) ∙ e ∙ z in
      let rest = by_offers p (tail_same (offers d) offered (map offers more) further same) in
      let P : List (List Edit) → Type 0 = λ o. (f : IsFirstTaken G a tok make d o es) → Parses L G a tok make offers (with_rest d (f.takes.put ++ f.takes.left)) r more lexemes → Parses L G a tok make offers c r errors lexemes in
      let base : P (offers d) = λ f q. Parses.repairs n d es more h f j q in
      subst P (head_same (offers d) offered (map offers more) further same) base first rest

module _ {L : Type 0} (G : Grammar) (a : Automaton) (tok : L → ℕ) (make : ℕ → List L → L) (lists : ℕ → ℕ → L → List (List Edit)) (lexemes : List L) where
  abbrev Answers : ℕ → ℕ → L → List (List Edit) → Type 0
  Answers state index lexeme offered = offered ≡ lists state index lexeme

  -- the sequences that are handed in at an error
  abbrev offers_at : Config L → List (List Edit)
  offers_at d = lists (get_or d.states 0 0) (length lexemes - length d.rest) (next_lexeme G make d.rest)

  offered_at : (d : Config L) (o : List (List Edit)) (e : ErrorValue L) → IsToldError G a tok make Answers lexemes d o e → offers_at d ≡ o
  offered_at d o e h =
      let left : length d.rest ≡ length lexemes - e.index = ap length h.index ∙ length-drop e.index lexemes in
      let place : length lexemes - length d.rest ≡ e.index = omega (arith, left, h.within) in
      ap (λ s. lists s (length lexemes - length d.rest) (next_lexeme G make d.rest)) (sym h.state) ∙
      ap (λ i. lists e.state i (next_lexeme G make d.rest)) place ∙
      ap (λ x. lists e.state e.index x) (sym h.lexeme) ∙ sym h.handed_in

  handed_is : (places : List (Config L)) (handed : List (List (List Edit))) (errors : List (ErrorValue L)) → AllThree (IsToldError G a tok make Answers lexemes) places handed errors → map offers_at places ≡ handed
  handed_is [] [] errors h = refl
  handed_is [] (o ∷ handed) errors h = absurd h
  handed_is (d ∷ places) [] errors h = absurd h
  handed_is (d ∷ places) (o ∷ handed) [] h = absurd h
  handed_is (d ∷ places) (o ∷ handed) (e ∷ errors) h = ap (λ l. offers_at d ∷ l) (handed_is places handed errors h.1) ∙ ap (λ x. x ∷ handed) (offered_at d o e h.0)

  -- two parses of these lexemes got the same lists
  same_handed : (tree other : Option (Tree L)) (errors others : List (ErrorValue L)) → (p : IsParsed G a tok make Answers (λ t. t ≡ tree) lexemes errors) → (q : IsParsed G a tok make Answers (λ t. t ≡ other) lexemes others) → p.handed ≡ q.handed
  same_handed tree other errors others p q =
      let p_is = handed_is p.places p.handed errors p.told in
      let q_is = handed_is q.places q.handed others q.told in
      let one = (repaired_parses_are_unique L).one_answer G a tok make offers_at (start_config a lexemes) p.tree q.tree p.places q.places p.repaired q.repaired
      (by_offers L G a tok make offers_at p.parses p_is) (by_offers L G a tok make offers_at q.parses q_is) in
      sym p_is ∙ ap (map offers_at) one.1 ∙ q_is

-- ---- two kits' parses

module _ {L V : Type 0} (law : ParsesAreOne L V) (lex : L → Lex) (faulty : ℕ → ℕ → ℕ → L) (lists : ℕ → ℕ → L → List (List Edit)) where
  abbrev Listed : ℕ → ℕ → L → List (List Edit) → Type 0
  Listed state index lexeme offered = offered ≡ lists state index lexeme

  abbrev Parsed : Grammar → Automaton → Option (Tree L) → List L → List (ErrorValue L) → Type 0
  Parsed G a tree lexemes errors = IsParsed G a (token_by lex) (made_by faulty lex (end_of lex lexemes)) Listed (λ t. t ≡ tree) lexemes errors

  -- of the same lexemes
  pub same_parsed : (G : Grammar) (a : Automaton) (xs ys : List L) (tree other : Option (Tree L)) (errors others : List (ErrorValue L)) → xs ≡ ys → Parsed G a tree xs errors → Parsed G a other ys others → (errors ≡ others) × (tree ≡ other)
  same_parsed G a xs ys tree other errors others same p =
      let P : List L → Type 0 = λ l. Parsed G a other l others → (errors ≡ others) × (tree ≡ other) in
      let tok = token_by lex in
      let make = made_by faulty lex (end_of lex xs) in
      let base : P xs = λ q.
      (let one = law.one_answer G a tok make xs errors others (bare G a tok make Listed xs (λ t. t ≡ tree) errors p) (bare G a tok make Listed xs (λ t. t ≡ other) others q) (same_handed G a tok make lists xs tree other errors others p q) in
      (one.0, sym p.gives_tree ∙ one.1 ∙ q.gives_tree)) in
      subst P same base

  module _ {S U E : Type 0} (number : S → ℕ) (other_number : U → ℕ) (items : List (Result L E)) (tree other : Option (Tree L)) (errors : List (ParseError L S)) (others : List (ParseError L U)) (d : ParserValue)
      (p : IsKitParse number lex faulty d Listed items (λ t. t ≡ tree) errors) where
    -- with one table
    same_told : IsKitParse other_number lex faulty d Listed items (λ t. t ≡ other) others → (map (told_of number) errors ≡ map (told_of other_number) others) × (tree ≡ other)
    same_told q =
        let lexemes : p.lexemes ≡ q.lexemes = oks_same {L = L} {E = E} p.lexemes q.lexemes (sym p.are_items ∙ q.are_items) in
        let both = same_parsed d.grammar.grammar (automaton_of d.graph d.table) p.lexemes q.lexemes tree other p.found q.found lexemes p.exact.parse.parsed q.exact.parse.parsed in
        (p.told ∙ ap (map (as_told p.lexemes)) both.0 ∙ ap (λ l. map (as_told l) q.found) lexemes ∙ sym q.told, both.1)

    parsed_alike : (e : ParserValue) → d ≡ e → IsKitParse other_number lex faulty e Listed items (λ t. t ≡ other) others → (map (told_of number) errors ≡ map (told_of other_number) others) × (tree ≡ other)
    parsed_alike e same q =
        let P : ParserValue → Type 0 = λ x. IsKitParse other_number lex faulty x Listed items (λ t. t ≡ other) others in
        same_told (subst P (sym same) q)

pub kits_parse_alike : {S U L E V : Type 0} → ParsesAreOne L V → (d e : ParserValue) → d ≡ e → ParseAlike S U L E d e
kits_parse_alike law d e same = λ number other_number lex faulty lists items tree other_tree errors others p q. parsed_alike law lex faulty lists number other_number items tree other_tree errors others d p e same q
