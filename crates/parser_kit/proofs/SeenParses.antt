-- A parse of lexemes, as a parse of what contracts see of them.
use Rattle.std.proofs.Common.{◌≡◌, ℕ, ◌≤◌, true, List, [], ◌∷◌, drop, map, Option, refl, sym, ap, ◌∙◌, subst, arith}
use Rattle.std.specs.Prelude.{option_map}
use Rattle.std.specs.List.{AllByRecursion}
use Rattle.std.proofs.lemmas.List.{drop-map, length-map}
use Rattle.cfg_theory.specs.Grammar.{Grammar, end_token}
use Rattle.cfg_theory.specs.Tree.{Tree}
use Rattle.lr_theory.specs.Automaton.{Automaton}
use Rattle.lr_theory.specs.Machine.{Config}
use Rattle.lr_theory.specs.Repair.{Edit, delete, insert, keep}
use Rattle.parse_trees.specs.Lex.{Lex, lex_at, token_by}
use Rattle.lrpar.specs.Made.{end_from, end_of, made_by, next_lexeme, next_start}
use Rattle.lrpar.specs.Parses.{AllThree, ErrorValue, IsParsed, IsToldError}
use Rattle.parse_trees.specs.Shown.{deleted, inserted, shifted, shown}
use Rattle.lrpar.specs.Told.{as_told}
use Rattle.parser_kit.specs.SeenLexemes.{InsertsWithin, seen_edit, seen_told, seen_tree}
use Rattle.parser_kit.proofs.SeenRuns.{filtered_seen, parses_seen, seen_config}

abbrev pub as_is : Lex → Lex
as_is x = x

-- what is seen of a lexeme that is made up
abbrev pub made_up : ℕ → ℕ → ℕ → Lex
made_up token start len = lex_at token start len true

abbrev pub seen_error : {L : Type 0} → (L → Lex) → ErrorValue L → ErrorValue Lex
seen_error lex e = record { state = e.state; lexeme = lex e.lexeme; index = e.index; repairs = e.repairs }

module _ {L : Type 0} (lex : L → Lex) where
  -- ---- what is told

  shown_seen : (es : List Edit) (xs : List L) → map (seen_edit lex) (shown es xs) ≡ shown es (map lex xs)
  shown_seen [] xs = refl
  shown_seen (insert t ∷ es) xs = ap (λ l. inserted t ∷ l) (shown_seen es xs)
  shown_seen (delete ∷ es) [] = refl
  shown_seen (delete ∷ es) (x ∷ xs) = ap (λ l. deleted (lex x) ∷ l) (shown_seen es xs)
  shown_seen (keep ∷ es) [] = refl
  shown_seen (keep ∷ es) (x ∷ xs) = ap (λ l. shifted (lex x) ∷ l) (shown_seen es xs)

  lists_seen : (ess : List (List Edit)) (xs : List L) → map (map (seen_edit lex)) (map (λ es. shown es xs) ess) ≡ map (λ es. shown es (map lex xs)) ess
  lists_seen [] xs = refl
  lists_seen (es ∷ ess) xs = ap (λ l. l ∷ map (map (seen_edit lex)) (map (λ es. shown es xs) ess)) (shown_seen es xs) ∙ ap (λ l. shown es (map lex xs) ∷ l) (lists_seen ess xs)

  told_same : (xs : List L) (e : ErrorValue L) → seen_told lex (as_told xs e) ≡ as_told (map lex xs) (seen_error lex e)
  told_same xs e =
      let same = lists_seen e.repairs (drop e.index xs) ∙ ap (λ l. map (λ es. shown es l) e.repairs) (sym (drop-map lex e.index xs)) in
      ap (λ r. record { state = e.state; lexeme = lex e.lexeme; repairs = r }) same

  pub all_told : (xs : List L) (es : List (ErrorValue L)) → map (seen_told lex) (map (as_told xs) es) ≡ map (as_told (map lex xs)) (map (seen_error lex) es)
  all_told xs [] = refl
  all_told xs (e ∷ es) = ap (λ x. x ∷ map (seen_told lex) (map (as_told xs) es)) (told_same xs e) ∙ ap (λ l. as_told (map lex xs) (seen_error lex e) ∷ l) (all_told xs es)

  -- ---- what is made up

  start_seen : (end : ℕ) (xs : List L) → next_start lex end xs ≡ next_start as_is end (map lex xs)
  start_seen end [] = refl
  start_seen end (x ∷ xs) = refl

  end_seen : (end : ℕ) (xs : List L) → end_from lex end xs ≡ end_from as_is end (map lex xs)
  end_seen end [] = refl
  end_seen end (x ∷ xs) = end_seen (lex x).places.end xs

  module _ (top : ℕ) (faulty : ℕ → ℕ → ℕ → L) (faulty_is : (token start len : ℕ) → token ≤ top → lex (faulty token start len) ≡ lex_at token start len true) where
    made_seen : (whole : List L) (t : ℕ) (xs : List L) → t ≤ top → lex (made_by faulty lex (end_of lex whole) t xs) ≡ made_by made_up as_is (end_of as_is (map lex whole)) t (map lex xs)
    made_seen whole t xs fits =
        faulty_is t (next_start lex (end_of lex whole) xs) 0 fits ∙
        ap (λ s. made_up t s 0) (start_seen (end_of lex whole) xs ∙ ap (λ e. next_start as_is e (map lex xs)) (end_seen 0 whole))

    -- ---- a parse

    module _ (G : Grammar) (a : Automaton) (end_fits : end_token G ≤ top) (lists : ℕ → ℕ → Lex → List (List Edit)) (fit : (state index : ℕ) (x : Lex) → AllByRecursion (AllByRecursion (InsertsWithin top)) (lists state index x)) (lexemes : List L) where
      abbrev make : ℕ → List L → L
      make = made_by faulty lex (end_of lex lexemes)

      abbrev make_seen : ℕ → List Lex → Lex
      make_seen = made_by made_up as_is (end_of as_is (map lex lexemes))

      abbrev Listed : ℕ → ℕ → L → List (List Edit) → Type 0
      Listed state index lexeme offered = offered ≡ lists state index (lex lexeme)

      abbrev SeenListed : ℕ → ℕ → Lex → List (List Edit) → Type 0
      SeenListed state index lexeme offered = offered ≡ lists state index lexeme

      next_seen : (xs : List L) → lex (next_lexeme G make xs) ≡ next_lexeme G make_seen (map lex xs)
      next_seen [] = made_seen lexemes (end_token G) [] end_fits
      next_seen (x ∷ xs) = refl

      abbrev AllFit : List (List Edit) → Type 0
      AllFit = AllByRecursion (AllByRecursion (InsertsWithin top))

      told_seen : (d : Config L) (offered : List (List Edit)) (e : ErrorValue L) → IsToldError G a (token_by lex) make Listed lexemes d offered e →
          AllFit offered × IsToldError G a (token_by as_is) make_seen SeenListed (map lex lexemes) (seen_config lex d) offered (seen_error lex e)
      told_seen d offered e h =
          let fits = subst AllFit (sym h.handed_in) (fit e.state e.index (lex e.lexeme)) in (
            fits,
            record {
              state = h.state;
              lexeme = ap lex h.lexeme ∙ next_seen d.rest;
              within = omega (arith, h.within, length-map lexemes lex);
              index = ap (map lex) h.index ∙ sym (drop-map lex e.index lexemes);
              handed_in = h.handed_in;
              are_repairs = filtered_seen lex G a (token_by as_is) top make make_seen (made_seen lexemes) d fits h.are_repairs;
            },
          )

      all_seen : (places : List (Config L)) (handed : List (List (List Edit))) (errors : List (ErrorValue L)) → AllThree (IsToldError G a (token_by lex) make Listed lexemes) places handed errors →
          AllByRecursion AllFit handed × AllThree (IsToldError G a (token_by as_is) make_seen SeenListed (map lex lexemes)) (map (seen_config lex) places) handed (map (seen_error lex) errors)
      all_seen [] [] [] h = (tt, tt)
      all_seen [] [] (e ∷ errors) h = absurd h
      all_seen [] (o ∷ handed) errors h = absurd h
      all_seen (d ∷ places) [] errors h = absurd h
      all_seen (d ∷ places) (o ∷ handed) [] h = absurd h
      all_seen (d ∷ places) (o ∷ handed) (e ∷ errors) h =
          let one = told_seen d o e h.0 in
          let others = all_seen places handed errors h.1 in
          ((one.0, others.0), (one.1, others.1))

      pub parsed_seen : (tree : Option (Tree L)) (errors : List (ErrorValue L)) → IsParsed G a (token_by lex) make Listed (λ t. t ≡ tree) lexemes errors →
          IsParsed G a (token_by as_is) make_seen SeenListed (λ t. t ≡ option_map (seen_tree lex) tree) (map lex lexemes) (map (seen_error lex) errors)
      parsed_seen tree errors p =
          let told = all_seen p.places p.handed errors p.told in
          record {
            handed = p.handed;
            places = map (seen_config lex) p.places;
            tree = option_map (seen_tree lex) p.tree;
            repaired = map lex p.repaired;
            parses = parses_seen lex G a (token_by as_is) top make make_seen (made_seen lexemes) told.0 p.parses;
            told = told.1;
            gives_tree = ap (option_map (seen_tree lex)) p.gives_tree;
          }
