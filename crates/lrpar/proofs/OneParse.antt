-- A parse has one answer, and its stacks after repairs are those of runs from the start.
use Rattle.std.proofs.Common.{◌≡◌, ◌≢◌, ◌≤◌, ℕ, ◌+◌, ◌-◌, ⊎_elim, List, [], ◌∷◌, ◌++◌, length, drop, get_or, Option, None, Some, refl, sym, ap, ◌∙◌, subst, arith, length-drop}
use Rattle.std.specs.List.{AllByRecursion}
use Rattle.std.proofs.lemmas.Bool.{cases_lt}
use Rattle.cfg_theory.specs.Grammar.{Grammar, WellFormed, start_symbol, end_token}
use Rattle.cfg_theory.specs.Derivation.{AllProductive}
use Rattle.cfg_theory.specs.Fold.{Span, by_functions, no_span}
use Rattle.cfg_theory.specs.Tree.{Tree}
use Rattle.cfg_theory.proofs.Folds.{folds_are_functions}
use Rattle.cfg_theory.proofs.Start.{well_formed_start}
use Rattle.lr_theory.specs.Automaton.{Automaton, Safe, Closed, Complete}
use Rattle.lr_theory.specs.Machine.{Config, failed, run, start_config}
use Rattle.lr_theory.specs.Stack.{stack_yield, Stands}
use Rattle.lr_theory.specs.Repair.{Edit, apply, with_rest, Takes, IsFirstTaken}
use Rattle.lr_theory.specs.HandedRepairs.{ParsesWith, accepts, gives_up, repairs}
use Rattle.lr_theory.specs.ViablePrefix.{HasPresent}
use Rattle.lr_theory.proofs.Complete.{one_answer}
use Rattle.lr_theory.proofs.ErrorPlaces.{failed_more, not_both}
use Rattle.lr_theory.proofs.HandedRepairs.{handed_is_offered}
use Rattle.lr_theory.specs.OfferedRepairs.{AreRepairs}
use Rattle.lr_theory.proofs.OfferedRepairs.{repairs_are_offered}
use Rattle.lr_theory.proofs.OneAnswer.{not_refused}
use Rattle.lr_theory.proofs.StackAfterRepair.{repairs_are_fresh}
use Rattle.lr_theory.proofs.StackInvariant.{stacks_stand}
use Rattle.lrpar.specs.Made.{next_lexeme}
use Rattle.lrpar.specs.Parses.{ErrorValue, AllThree, IsToldError, HasValue, IsParsed}
use Rattle.lrpar.specs.ParseLaws.{AnyAnswers, AnyTree, IsFreshAfter, RepairedStacksAreFresh, ParsesAreOne}

head_same : {X : Type 0} (x y : X) (xs ys : List X) → x ∷ xs ≡ y ∷ ys → x ≡ y
head_same x y xs ys e = cc

tail_same : {X : Type 0} (x y : X) (xs ys : List X) → x ∷ xs ≡ y ∷ ys → xs ≡ ys
tail_same x y xs ys e = cc

-- ---- the machine

module _ (L : Type 0) (G : Grammar) (a : Automaton) (tok : L → ℕ) where
  one_failure : (m n : ℕ) (c d e : Config L) → run G a tok m c ≡ failed d → run G a tok n c ≡ failed e → d ≡ e
  one_failure m n c d e h k =
      ⊎_elim
      (λ lt. let q : m + (n - m) ≡ n = omega arith in same (sym (failed_more L G a tok m (n - m) c d h) ∙ ap (λ j. run G a tok j c) q ∙ k))
      (λ le. let q : n + (m - n) ≡ m = omega arith in same (sym h ∙ sym (ap (λ j. run G a tok j c) q) ∙ failed_more L G a tok n (m - n) c e k))
      (cases_lt m n)
    where
      same : failed d ≡ failed e → d ≡ e
      same e = cc

  module _ (make : ℕ → List L → L) where
    abbrev Refused : Config L → List Edit → Type 0
    Refused d es = Takes G a tok make d es → ⊥

    one_first : (d : Config L) (before other : List (List Edit)) (es fs : List Edit) (behind rest : List (List Edit)) → before ++ es ∷ behind ≡ other ++ fs ∷ rest →
        AllByRecursion (Refused d) before → AllByRecursion (Refused d) other → Takes G a tok make d es → Takes G a tok make d fs → es ≡ fs
    one_first d [] [] es fs behind rest e h k s t = head_same es fs behind rest e
    one_first d [] (x ∷ other) es fs behind rest e h k s t = absurd (k.0 (subst (Takes G a tok make d) (head_same es x behind (other ++ fs ∷ rest) e) s))
    one_first d (x ∷ before) [] es fs behind rest e h k s t = absurd (h.0 (subst (Takes G a tok make d) (sym (head_same x fs (before ++ es ∷ behind) rest e)) t))
    one_first d (x ∷ before) (y ∷ other) es fs behind rest e h k s t = one_first d before other es fs behind rest (tail_same x y (before ++ es ∷ behind) (other ++ fs ∷ rest) e) h.1 k.1 s t

    some_pair : (p q : List L × List L) → Some p ≡ Some q → p ≡ q
    some_pair p q e = cc

    one_repair : (d e : Config L) (offered others : List (List Edit)) (es fs : List Edit) → d ≡ e → offered ≡ others → (x : IsFirstTaken G a tok make d offered es) → (y : IsFirstTaken G a tok make e others fs) →
        with_rest d (x.takes.put ++ x.takes.left) ≡ with_rest e (y.takes.put ++ y.takes.left)
    one_repair d e offered others es fs same all x y =
        let t : Takes G a tok make d fs = subst (λ c. Takes G a tok make c fs) (sym same) y.takes in
        let refused : AllByRecursion (Refused d) y.earlier = subst (λ c. AllByRecursion (Refused c) y.earlier) (sym same) y.are_refused in
        let edits : es ≡ fs = one_first d x.earlier y.earlier es fs x.later y.later (sym x.is_offered ∙ all ∙ y.is_offered) x.are_refused refused x.takes t in
        let rests : d.rest ≡ e.rest = ap (λ c. c.rest) same in
        let pairs : Some (x.takes.put, x.takes.left) ≡ Some (y.takes.put, y.takes.left) = sym x.takes.applied ∙ ap (λ l. apply make l d.rest) edits ∙ ap (apply make fs) rests ∙ y.takes.applied in
        let both : (x.takes.put, x.takes.left) ≡ (y.takes.put, y.takes.left) = some_pair (x.takes.put, x.takes.left) (y.takes.put, y.takes.left) pairs in
        ap (λ u. with_rest d (u.0 ++ u.1)) both ∙ ap (λ c. with_rest c (y.takes.put ++ y.takes.left)) same

    -- what is refused at d can't be the first that is taken there
    both_ways : (d e : Config L) (offered others : List (List Edit)) (es : List Edit) → d ≡ e → offered ≡ others → AllByRecursion (Refused d) offered → IsFirstTaken G a tok make e others es → ⊥
    both_ways d e offered others es same all none first =
        let moved : AllByRecursion (Refused e) others = subst (AllByRecursion (Refused e)) all (subst (λ x. AllByRecursion (Refused x) offered) same none) in
        not_refused L G a tok make e first.earlier es first.later (subst (AllByRecursion (Refused e)) first.is_offered moved) first.takes

    abbrev Same : (r s : Option (Tree L)) (errors others : List (Config L)) (lexemes left : List L) → Type 0
    Same r s errors others lexemes left = (r ≡ s) × (errors ≡ others) × (lexemes ≡ left)

    same_parse : {c e : Config L} {handed lists : List (List (List Edit))} {r s : Option (Tree L)} {errors others : List (Config L)} {lexemes left : List L} →
        ParsesWith L G a tok make c handed r errors lexemes → c ≡ e → handed ≡ lists → ParsesWith L G a tok make e lists s others left → Same r s errors others lexemes left
    same_parse {c} {e} (accepts n t h z i j k) q w (accepts m u h' z' i' j' k') =
        let same = one_answer L G a tok n m c t u h (ap (run G a tok m) q ∙ h') in
        (i ∙ ap Some same ∙ sym i', j ∙ sym j', k ∙ ap (λ x. stack_yield x.trees ++ x.rest) q ∙ sym k')
    same_parse {c} {e} (accepts n t h z i j k) q w (gives_up m d o h' i' z' j' k' l') = absurd (not_both L G a tok m n c d t (ap (run G a tok m) q ∙ h') h)
    same_parse {c} {e} (accepts n t h z i j k) q w (repairs m d o es further more h' first z' j' p) = absurd (not_both L G a tok m n c d t (ap (run G a tok m) q ∙ h') h)
    same_parse {c} {e} (gives_up n d o h i z j k l) q w (accepts m u h' z' i' j' k') = absurd (not_both L G a tok n m c d u h (ap (run G a tok m) q ∙ h'))
    same_parse {c} {e} (gives_up n d o h i z j k l) q w (gives_up m d' o' h' i' z' j' k' l') =
        let same = one_failure n m c d d' h (ap (run G a tok m) q ∙ h') in
        (j ∙ sym j', k ∙ ap (λ x. x ∷ []) same ∙ sym k', l ∙ ap (λ x. stack_yield x.trees ++ x.rest) same ∙ sym l')
    same_parse {c} {e} (gives_up n d o h i z j k l) q w (repairs m d' o' es further more h' first z' j' p) =
        let same = one_failure n m c d d' h (ap (run G a tok m) q ∙ h') in
        absurd (both_ways d d' o o' es same (head_same o o' [] further (sym z ∙ w ∙ z')) i first)
    same_parse {c} {e} (repairs n d o es further more h first z j p) q w (accepts m u h' z' i' j' k') = absurd (not_both L G a tok n m c d u h (ap (run G a tok m) q ∙ h'))
    same_parse {c} {e} (repairs n d o es further more h first z j p) q w (gives_up m d' o' h' i' z' j' k' l') =
        let same = one_failure m n c d' d (ap (run G a tok m) q ∙ h') h in
        absurd (both_ways d' d o' o es same (head_same o' o [] further (sym z' ∙ sym w ∙ z)) i' first)
    same_parse {c} {e} (repairs n d o es further more h first z j p) q w (repairs m d' o' fs further' more' h' first' z' j' p') =
        let same = one_failure n m c d d' h (ap (run G a tok m) q ∙ h') in
        let lists : o ∷ further ≡ o' ∷ further' = sym z ∙ w ∙ z' in
        let rest = same_parse p (one_repair d d' o o' es fs same (head_same o o' further further' lists) first first') (tail_same o o' further further' lists) p' in
        (rest.0, j ∙ ap (λ l. d ∷ l) rest.1 ∙ ap (λ k. k ∷ more') same ∙ sym j', rest.2)

    -- ---- what is told of it

    module _ (lexemes : List L) where
      same_index : (i j : ℕ) (xs : List L) → xs ≡ drop i lexemes → xs ≡ drop j lexemes → i ≤ length lexemes → j ≤ length lexemes → i ≡ j
      same_index i j xs x y u v =
          let m : length xs ≡ length lexemes - i = ap length x ∙ length-drop i lexemes in
          let n : length xs ≡ length lexemes - j = ap length y ∙ length-drop j lexemes in
          omega (arith, m, n, u, v)

      abbrev Listed : Config L → List (List Edit) → List (List Edit) → Type 0
      Listed c o r = AreRepairs G a tok make c o r

      same_error : (d e : Config L) (offered others : List (List Edit)) (z w : ErrorValue L) → d ≡ e → offered ≡ others → IsToldError G a tok make AnyAnswers lexemes d offered z → IsToldError G a tok make AnyAnswers lexemes e others w → z ≡ w
      same_error d e offered others z w same lists h k =
          let state : z.state ≡ w.state = h.state ∙ ap (λ (c : Config L). get_or c.states 0 0) same ∙ sym k.state in
          let lexeme : z.lexeme ≡ w.lexeme = h.lexeme ∙ ap (λ (c : Config L). next_lexeme G make c.rest) same ∙ sym k.lexeme in
          let index : z.index ≡ w.index = same_index z.index w.index d.rest h.index (ap (λ (c : Config L). c.rest) same ∙ k.index) h.within k.within in
          let moved = subst (λ (l : List (List Edit)). Listed d l w.repairs) (sym lists) (subst (λ (c : Config L). Listed c others w.repairs) (sym same) k.are_repairs) in
          let repairs : z.repairs ≡ w.repairs = (repairs_are_offered L).unique G a tok make d offered z.repairs w.repairs h.are_repairs moved in
          ap (λ s. record { state = s; lexeme = z.lexeme; index = z.index; repairs = z.repairs }) state
          ∙ ap (λ x. record { state = w.state; lexeme = x; index = z.index; repairs = z.repairs }) lexeme
          ∙ ap (λ i. record { state = w.state; lexeme = w.lexeme; index = i; repairs = z.repairs }) index
          ∙ ap (λ r. record { state = w.state; lexeme = w.lexeme; index = w.index; repairs = r }) repairs

      abbrev Told : List (Config L) → List (List (List Edit)) → List (ErrorValue L) → Type 0
      Told = AllThree (IsToldError G a tok make AnyAnswers lexemes)

      same_told : (places : List (Config L)) (handed : List (List (List Edit))) (errors others : List (ErrorValue L)) → Told places handed errors → Told places handed others → errors ≡ others
      same_told [] [] [] [] h k = refl
      same_told [] [] [] (w ∷ others) h k = absurd k
      same_told [] [] (z ∷ errors) others h k = absurd h
      same_told [] (o ∷ handed) errors others h k = absurd h
      same_told (d ∷ places) [] errors others h k = absurd h
      same_told (d ∷ places) (o ∷ handed) [] others h k = absurd h
      same_told (d ∷ places) (o ∷ handed) (z ∷ errors) [] h k = absurd k
      same_told (d ∷ places) (o ∷ handed) (z ∷ errors) (w ∷ others) h k =
          ap (λ (x : ErrorValue L). x ∷ errors) (same_error d d o o z w refl refl h.0 k.0) ∙ ap (λ (l : List (ErrorValue L)). w ∷ l) (same_told places handed errors others h.1 k.1)

      one_parse : (errors others : List (ErrorValue L)) → (p : IsParsed G a tok make AnyAnswers AnyTree lexemes errors) → (q : IsParsed G a tok make AnyAnswers AnyTree lexemes others) → p.handed ≡ q.handed →
          (errors ≡ others) × (p.tree ≡ q.tree) × (p.places ≡ q.places) × (p.repaired ≡ q.repaired)
      one_parse errors others p q e =
          let same = same_parse p.parses refl e q.parses in
          let moved = subst (λ (h : List (List (List Edit))). Told p.places h others) (sym e) (subst (λ (l : List (Config L)). Told l q.handed others) (sym same.1) q.told) in
          (same_told p.places p.handed errors others p.told moved, same.0, same.1, same.2)

    -- ---- stacks after repairs

    module _ (good : WellFormed G) (safe : Safe G a) (closed : Closed G a) (complete : Complete G a) (present : HasPresent G a) (productive : AllProductive G) where
      fresh_at : (d : Config L) → Stands G a tok (stack_yield d.trees ++ d.rest) d → IsFreshAfter G a tok make d
      fresh_at d stands es k y ys e =
          (repairs_are_fresh L).next_shift G a tok make (start_symbol G) (stack_yield d.trees ++ d.rest) d es (record { safe = safe; closed = closed; complete = complete; has_start = well_formed_start G good }) present productive stands k y ys e

      fresh_all : (places : List (Config L)) → AllByRecursion (λ d. Stands G a tok (stack_yield d.trees ++ d.rest) d) places → AllByRecursion (IsFreshAfter G a tok make) places
      fresh_all [] h = tt
      fresh_all (d ∷ places) h = (fresh_at d h.0, fresh_all places h.1)

      fresh_parse : (lexemes : List L) (handed : List (List (List Edit))) (tree : Option (Tree L)) (places : List (Config L)) (repaired : List L) → AllByRecursion (λ y. tok y ≢ end_token G) lexemes →
          ParsesWith L G a tok make (start_config a lexemes) handed tree places repaired → AllByRecursion (IsFreshAfter G a tok make) places
      fresh_parse lexemes handed tree places repaired ends p =
          let q = (handed_is_offered L).by_function G a tok make (start_config a lexemes) handed tree places repaired p in
          fresh_all places ((stacks_stand L).errors G a tok make q.0 (start_symbol G) lexemes tree places repaired safe (well_formed_start G good) ends q.2)

pub repaired_stacks_are_fresh : (L : Type 0) → RepairedStacksAreFresh L
repaired_stacks_are_fresh L = record { fresh = λ G a tok make lexemes handed tree places repaired good safe closed complete present productive ends p. fresh_parse L G a tok make good safe closed complete present productive lexemes handed tree places repaired ends p }

module _ (L V : Type 0) where
  one_value : (G : Grammar) (at : L → Span) (term : L → V) (says : ℕ → ℕ → Span → List V → V) (tree : Option (Tree L)) (value other : Option V) →
      HasValue G (by_functions term says) at value tree → HasValue G (by_functions term says) at other tree → value ≡ other
  one_value G at term says None None None h k = refl
  one_value G at term says None None (Some w) h k = absurd k
  one_value G at term says None (Some v) other h k = absurd h
  one_value G at term says (Some t) None other h k = absurd h
  one_value G at term says (Some t) (Some v) None h k = absurd k
  one_value G at term says (Some t) (Some v) (Some w) h k =
      let law = folds_are_functions L V in
      ap Some ((law.is_fold G at term says t no_span v).0 h ∙ sym ((law.is_fold G at term says t no_span w).0 k))

  pub parses_are_one : ParsesAreOne L V
  parses_are_one = record { one_answer = λ G a tok make lexemes errors others p q e. one_parse L G a tok make lexemes errors others p q e; one_value = one_value }
