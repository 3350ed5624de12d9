-- What follows of a parse from what was handed in and told at its errors.
use Rattle.std.proofs.Common.{◌≡◌, ◌≢◌, ◌<◌, ◌≤◌, ◌-◌, ◌↔◌, ℕ, suc, List, [], ◌∷◌, ◌++◌, length, map, drop, Option, None, Some, refl, sym, ap, ◌∙◌, subst, arith, length-drop}
use Rattle.std.specs.Prelude.{IsSome}
use Rattle.std.specs.List.{AllByRecursion, AllZip}
use Rattle.cfg_theory.specs.Grammar.{Grammar, WellFormed, start_symbol, end_token}
use Rattle.cfg_theory.proofs.Start.{well_formed_start}
use Rattle.cfg_theory.specs.Derivation.{AllProductive}
use Rattle.cfg_theory.specs.Tree.{Tree, IsDerivation}
use Rattle.cfg_theory.specs.Fold.{Span, Answers}
use Rattle.lr_theory.specs.Automaton.{Automaton, Safe, Closed, Complete}
use Rattle.lr_theory.specs.Machine.{Config, start_config}
use Rattle.lr_theory.specs.Stack.{stack_yield, Stands}
use Rattle.lr_theory.specs.Repair.{Edit, Takes, Parses, Advances, IsFirstTaken}
use Rattle.lr_theory.specs.OfferedRepairs.{Filtered, AreRepairs, HasRepair}
use Rattle.lr_theory.specs.ViablePrefix.{HasPresent}
use Rattle.lr_theory.proofs.HandedRepairs.{handed_is_offered}
use Rattle.lr_theory.proofs.OfferedRepairs.{repairs_are_offered, values_come_by_repairs}
use Rattle.lr_theory.proofs.Repair.{repairs_are_sound}
use Rattle.lr_theory.proofs.OneAnswer.{repaired_parses_are_unique}
use Rattle.lr_theory.proofs.Fit.{taken_sequences_fit}
use Rattle.lr_theory.proofs.Trace.{repairs_leave_no_trace}
use Rattle.lr_theory.proofs.StackInvariant.{stacks_stand}
use Rattle.lr_theory.proofs.MachineLaws.{is_complete}
use Rattle.lrpar.specs.Parses.{ErrorValue, IsToldError, AllThree, HasValue, IsParsed, IndicesAscend, FitsAt, IsFlawless, IsParse}

-- as many errors as places
pub three_long : {A B C : Type 0} (P : A → B → C → Type 0) (xs : List A) (ys : List B) (zs : List C) → AllThree P xs ys zs → length zs ≡ length xs
three_long P [] [] [] h = refl
three_long P [] [] (z ∷ zs) h = absurd h
three_long P [] (y ∷ ys) zs h = absurd h
three_long P (x ∷ xs) [] zs h = absurd h
three_long P (x ∷ xs) (y ∷ ys) [] h = absurd h
three_long P (x ∷ xs) (y ∷ ys) (z ∷ zs) h = ap suc (three_long P xs ys zs h.1)

-- one more at the end of each
pub three_more : {A B C : Type 0} (P : A → B → C → Type 0) (xs : List A) (ys : List B) (zs : List C) (x : A) (y : B) (z : C) → AllThree P xs ys zs → P x y z →
    AllThree P (xs ++ x ∷ []) (ys ++ y ∷ []) (zs ++ z ∷ [])
three_more P [] [] [] x y z h p = (p, tt)
three_more P [] [] (w ∷ zs) x y z h p = absurd h
three_more P [] (v ∷ ys) zs x y z h p = absurd h
three_more P (u ∷ xs) [] zs x y z h p = absurd h
three_more P (u ∷ xs) (v ∷ ys) [] x y z h p = absurd h
three_more P (u ∷ xs) (v ∷ ys) (w ∷ zs) x y z h p = (h.0, three_more P xs ys zs x y z h.1 p)

kept_hold : {X : Type 0} (P : X → Type 0) {xs ys : List X} → Filtered P xs ys → AllByRecursion P ys
kept_hold P Filtered.none = tt
kept_hold P (Filtered.kept p h) = (p, kept_hold P h)
kept_hold P (Filtered.dropped n h) = kept_hold P h

each_of : {X : Type 0} (P Q : X → Type 0) (xs : List X) → ((x : X) → P x → Q x) → AllByRecursion P xs → AllByRecursion Q xs
each_of P Q [] f h = tt
each_of P Q (x ∷ xs) f h = (f x h.0, each_of P Q xs f h.1)

head_same : {X : Type 0} (x y : X) (xs ys : List X) → x ∷ xs ≡ y ∷ ys → x ≡ y
head_same x y xs ys e = cc

tail_same : {X : Type 0} (x y : X) (xs ys : List X) → x ∷ xs ≡ y ∷ ys → xs ≡ ys
tail_same x y xs ys e = cc

none_of : {X : Type 0} (xs : List X) → length xs ≡ 0 → xs ≡ []
none_of [] e = refl
none_of (x ∷ xs) e = absurd (omega (arith, e))

-- a value comes with a tree
pub valued : {L V : Type 0} (G : Grammar) (by : Answers L V) (at : L → Span) (value : Option V) (tree : Option (Tree L)) → HasValue G by at value tree → IsSome tree ↔ IsSome value
valued G by at None None h = (λ e. e, λ e. e)
valued G by at (Some v) None h = absurd h
valued G by at None (Some t) h = absurd h
valued G by at (Some v) (Some t) h = (λ e. refl, λ e. refl)

module _ {L : Type 0} (G : Grammar) (a : Automaton) (tok : L → ℕ) (make : ℕ → List L → L) (answers : ℕ → ℕ → L → List (List Edit) → Type 0) (lexemes : List L) where
  abbrev Told : List (Config L) → List (List (List Edit)) → List (ErrorValue L) → Type 0
  Told = AllThree (IsToldError G a tok make answers lexemes)

  -- an error has a repair where it lists one
  lists : (d : Config L) (offered repairs : List (List Edit)) → AreRepairs G a tok make d offered repairs → (es : List Edit) → IsFirstTaken G a tok make d offered es → 0 < length repairs
  lists d offered repairs are es taken =
      let m = (repairs_are_offered L).is_first G a tok make d offered repairs es are taken in
      let n = ap length m.1 in
      omega (arith, n)

  listed : (d : Config L) (offered repairs : List (List Edit)) → AreRepairs G a tok make d offered repairs → 0 < length repairs → (es : List Edit) × IsFirstTaken G a tok make d offered es
  listed d offered [] are lt = absurd (omega (arith, lt))
  listed d offered (es ∷ more) are lt = (es, (repairs_are_offered L).first G a tok make d offered more es are)

  module _ (offers : Config L → List (List Edit)) where
    to_lists : (places : List (Config L)) (handed : List (List (List Edit))) (errors : List (ErrorValue L)) → map offers places ≡ handed → Told places handed errors →
        AllByRecursion (HasRepair G a tok make offers) places → AllByRecursion (λ e. 0 < length e.repairs) errors
    to_lists [] [] [] e h all = tt
    to_lists [] [] (z ∷ errors) e h all = absurd h
    to_lists [] (o ∷ handed) errors e h all = absurd h
    to_lists (d ∷ places) [] errors e h all = absurd h
    to_lists (d ∷ places) (o ∷ handed) [] e h all = absurd h
    to_lists (d ∷ places) (o ∷ handed) (z ∷ errors) e h all =
        let same : offers d ≡ o = head_same (offers d) o (map offers places) handed e in
        let taken : IsFirstTaken G a tok make d o all.0.0 = subst (λ l. IsFirstTaken G a tok make d l all.0.0) same all.0.1 in
        (lists d o z.repairs h.0.are_repairs all.0.0 taken, to_lists places handed errors (tail_same (offers d) o (map offers places) handed e) h.1 all.1)

    of_lists : (places : List (Config L)) (handed : List (List (List Edit))) (errors : List (ErrorValue L)) → map offers places ≡ handed → Told places handed errors →
        AllByRecursion (λ e. 0 < length e.repairs) errors → AllByRecursion (HasRepair G a tok make offers) places
    of_lists [] [] [] e h all = tt
    of_lists [] [] (z ∷ errors) e h all = absurd h
    of_lists [] (o ∷ handed) errors e h all = absurd h
    of_lists (d ∷ places) [] errors e h all = absurd h
    of_lists (d ∷ places) (o ∷ handed) [] e h all = absurd h
    of_lists (d ∷ places) (o ∷ handed) (z ∷ errors) e h all =
        let same : offers d ≡ o = head_same (offers d) o (map offers places) handed e in
        let taken = listed d o z.repairs h.0.are_repairs all.0 in
        ((taken.0, subst (λ l. IsFirstTaken G a tok make d l taken.0) (sym same) taken.1), of_lists places handed errors (tail_same (offers d) o (map offers places) handed e) h.1 all.1)

  -- fewer lexemes left is a later index
  later_index : (d e : Config L) (i j : ℕ) → d.rest ≡ drop i lexemes → e.rest ≡ drop j lexemes → i ≤ length lexemes → j ≤ length lexemes → length e.rest < length d.rest → i < j
  later_index d e i j x y u v lt =
      let m : length d.rest ≡ length lexemes - i = ap length x ∙ length-drop i lexemes in
      let n : length e.rest ≡ length lexemes - j = ap length y ∙ length-drop j lexemes in
      omega (arith, m, n, u, v, lt)

  ascend : (places : List (Config L)) (handed : List (List (List Edit))) (errors : List (ErrorValue L)) → Told places handed errors → Advances places → IndicesAscend errors
  ascend [] [] [] h all = tt
  ascend [] [] (z ∷ errors) h all = absurd h
  ascend [] (o ∷ handed) errors h all = absurd h
  ascend (d ∷ places) [] errors h all = absurd h
  ascend (d ∷ places) (o ∷ handed) [] h all = absurd h
  ascend (d ∷ []) (o ∷ []) (z ∷ []) h all = tt
  ascend (d ∷ []) (o ∷ []) (z ∷ y ∷ errors) h all = absurd h.1
  ascend (d ∷ []) (o ∷ p ∷ handed) (z ∷ errors) h all = absurd h.1
  ascend (d ∷ e ∷ places) (o ∷ []) (z ∷ errors) h all = absurd h.1
  ascend (d ∷ e ∷ places) (o ∷ p ∷ handed) (z ∷ []) h all = absurd h.1
  ascend (d ∷ e ∷ places) (o ∷ p ∷ handed) (z ∷ y ∷ errors) h all =
      (later_index d e z.index y.index h.0.index h.1.0.index h.0.within h.1.0.within all.0, ascend (e ∷ places) (p ∷ handed) (y ∷ errors) h.1 all.1)

  module _ (well_formed : WellFormed G) (safe : Safe G a) where
    abbrev StandsThere : Config L → Type 0
    StandsThere d = Stands G a tok (stack_yield d.trees ++ d.rest) d

    fits_at : HasPresent G a → AllProductive G → (d : Config L) → StandsThere d → (es : List Edit) → Takes G a tok make d es → FitsAt G a tok make d es
    fits_at present productive d stands es k = record {
      takes = k;
      begins = λ y ys e. (taken_sequences_fit L).begins G a tok make (start_symbol G) (stack_yield d.trees ++ d.rest) d es safe (well_formed_start G well_formed) present productive stands k y ys e;
      is_sentence = λ e. (taken_sequences_fit L).is_sentence G a tok make (start_symbol G) (stack_yield d.trees ++ d.rest) d es safe (well_formed_start G well_formed) stands k e;
    }

    fit : HasPresent G a → AllProductive G → (places : List (Config L)) (handed : List (List (List Edit))) (errors : List (ErrorValue L)) → Told places handed errors → AllByRecursion StandsThere places →
        AllZip (λ d e. AllByRecursion (FitsAt G a tok make d) e.repairs) places errors
    fit present productive [] [] [] h all = tt
    fit present productive [] [] (z ∷ errors) h all = absurd h
    fit present productive [] (o ∷ handed) errors h all = absurd h
    fit present productive (d ∷ places) [] errors h all = absurd h
    fit present productive (d ∷ places) (o ∷ handed) [] h all = absurd h
    fit present productive (d ∷ places) (o ∷ handed) (z ∷ errors) h all =
        (each_of (Takes G a tok make d) (FitsAt G a tok make d) z.repairs (fits_at present productive d all.0) (kept_hold (Takes G a tok make d) h.0.are_repairs), fit present productive places handed errors h.1 all.1)

    module _ (gives : Option (Tree L) → Type 0) (no_end : AllByRecursion (λ y. tok y ≢ end_token G) lexemes) (errors : List (ErrorValue L)) where
      flawless_of : (p : IsParsed G a tok make answers gives lexemes errors) (offers : Config L → List (List Edit)) → Parses L G a tok make offers (start_config a lexemes) p.tree p.places p.repaired →
          Closed G a → Complete G a → (t : Tree L) → IsDerivation G tok (start_symbol G) lexemes t → IsFlawless G a tok lexemes t p.tree errors
      flawless_of p offers q closed complete t derived =
          let start = well_formed_start G well_formed in
          let once = (is_complete L).accepts G a tok (start_symbol G) lexemes t safe closed complete start derived in
          let before = (is_complete L).still_going G a tok (start_symbol G) lexemes t safe closed complete start derived in
          let plain : Parses L G a tok make offers (start_config a lexemes) (Some t) [] lexemes = Parses.accepts _ t once refl refl refl in
          let same = (repaired_parses_are_unique L).one_answer G a tok make offers (start_config a lexemes) p.tree (Some t) p.places [] p.repaired lexemes q plain in
          record {
            no_errors = none_of errors (three_long _ p.places p.handed errors p.told ∙ ap length same.1);
            is_tree = same.0;
            last = before.0;
            goes = before.1;
            accepts = once;
          }

      -- so a parse has all that is said of one
      pub is_parse : IsParsed G a tok make answers gives lexemes errors → IsParse G a tok make answers gives lexemes errors
      is_parse p =
          let start = well_formed_start G well_formed in
          let x = start_symbol G in
          let from = (handed_is_offered L).by_function G a tok make (start_config a lexemes) p.handed p.tree p.places p.repaired p.parses in
          let offers = from.0 in
          let q = from.2 in
          let sound = repairs_are_sound L in
          let advances = sound.errors_advance G a tok make offers lexemes p.tree p.places p.repaired q in
          let few_places = sound.few_errors G a tok make offers lexemes p.tree p.places p.repaired q in
          let long = three_long _ p.places p.handed errors p.told in
          let comes = (values_come_by_repairs L).comes G a tok make offers (start_config a lexemes) p.tree p.places p.repaired q in
          record {
            parsed = p;
            derives = λ t e. sound.gives_derivation G a tok make offers x lexemes t p.places p.repaired safe start no_end (subst (λ r. Parses L G a tok make offers (start_config a lexemes) r p.places p.repaired) e q);
            by_repairs = (λ some. to_lists offers p.places p.handed errors from.1 p.told (comes.0 some), λ all. comes.1 (of_lists offers p.places p.handed errors from.1 p.told all));
            few = omega (arith, few_places, long);
            advance = advances;
            further = ascend p.places p.handed errors p.told advances;
            fits = λ present productive. fit present productive p.places p.handed errors p.told ((stacks_stand L).errors G a tok make offers x lexemes p.tree p.places p.repaired safe start no_end q);
            flawless = flawless_of p offers q;
            same_value = λ closed complete t e. (repairs_leave_no_trace L).same_value G a tok make offers x lexemes t p.places p.repaired (record { safe = safe; closed = closed; complete = complete; has_start = start }) no_end (subst (λ r. Parses L G a tok make offers (start_config a lexemes) r p.places p.repaired) e q);
            true_errors = λ closed complete present productive. (repairs_leave_no_trace L).same_errors G a tok make offers x lexemes p.tree p.places p.repaired (record { safe = safe; closed = closed; complete = complete; has_start = start }) present productive no_end q;
          }
