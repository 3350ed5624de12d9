-- A parse with repairs has one answer.
use Rattle.std.proofs.Common.{◌≡◌, ℕ, ◌+◌, ◌-◌, ⊎_elim, List, [], ◌∷◌, ◌++◌, Option, Some, refl, sym, ap, ◌∙◌, subst, arith}
use Rattle.std.specs.List.{AllByRecursion}
use Rattle.std.proofs.lemmas.Bool.{cases_lt}
use Rattle.cfg_theory.specs.Grammar.{Grammar}
use Rattle.cfg_theory.specs.Tree.{Tree}
use Rattle.lr_theory.specs.Automaton.{Automaton}
use Rattle.lr_theory.specs.Machine.{Config, failed, run}
use Rattle.lr_theory.specs.Stack.{stack_yield}
use Rattle.lr_theory.specs.Repair.{Edit, apply, with_rest, Takes, IsFirstTaken, Parses, accepts, gives_up, repairs, RepairedParsesAreUnique}
use Rattle.lr_theory.proofs.Complete.{one_answer}
use Rattle.lr_theory.proofs.ErrorPlaces.{failed_more, not_both}

module _ (L : Type 0) (G : Grammar) (a : Automaton) (tok : L → ℕ) where
  -- a run fails in one way
  one_failure : (m n : ℕ) (c d e : Config L) → run G a tok m c ≡ failed d → run G a tok n c ≡ failed e → d ≡ e
  one_failure m n c d e h k =
      ⊎_elim
      (λ lt. let q : m + (n - m) ≡ n = omega arith in same (sym (failed_more L G a tok m (n - m) c d h) ∙ ap (λ j. run G a tok j c) q ∙ k))
      (λ le. let q : n + (m - n) ≡ m = omega arith in same (sym h ∙ sym (ap (λ j. run G a tok j c) q) ∙ failed_more L G a tok n (m - n) c e k))
      (cases_lt m n)
    where
      same : failed d ≡ failed e → d ≡ e
      same e = cc

  module _ (make : ℕ → List L → L) where
    abbrev Refused : Config L → List Edit → Type 0
    Refused d es = Takes G a tok make d es → ⊥

    head_same : (x y : List Edit) (xs ys : List (List Edit)) → x ∷ xs ≡ y ∷ ys → x ≡ y
    head_same x y xs ys e = cc

    tail_same : (x y : List Edit) (xs ys : List (List Edit)) → x ∷ xs ≡ y ∷ ys → xs ≡ ys
    tail_same x y xs ys e = cc

    -- the first sequence of a list that can be taken
    one_first : (d : Config L) (before other : List (List Edit)) (es fs : List Edit) (behind rest : List (List Edit)) → before ++ es ∷ behind ≡ other ++ fs ∷ rest →
        AllByRecursion (Refused d) before → AllByRecursion (Refused d) other → Takes G a tok make d es → Takes G a tok make d fs → es ≡ fs
    one_first d [] [] es fs behind rest e h k s t = head_same es fs behind rest e
    one_first d [] (x ∷ other) es fs behind rest e h k s t = absurd (k.0 (subst (Takes G a tok make d) (head_same es x behind (other ++ fs ∷ rest) e) s))
    one_first d (x ∷ before) [] es fs behind rest e h k s t = absurd (h.0 (subst (Takes G a tok make d) (sym (head_same x fs (before ++ es ∷ behind) rest e)) t))
    one_first d (x ∷ before) (y ∷ other) es fs behind rest e h k s t = one_first d before other es fs behind rest (tail_same x y (before ++ es ∷ behind) (other ++ fs ∷ rest) e) h.1 k.1 s t

    -- none is refused that can be taken
    pub not_refused : (d : Config L) (before : List (List Edit)) (es : List Edit) (behind : List (List Edit)) → AllByRecursion (Refused d) (before ++ es ∷ behind) → Takes G a tok make d es → ⊥
    not_refused d [] es behind h t = h.0 t
    not_refused d (x ∷ before) es behind h t = not_refused d before es behind h.1 t

    some_pair : (p q : List L × List L) → Some p ≡ Some q → p ≡ q
    some_pair p q e = cc

    -- so the lexemes after a repair are the same
    one_repair : (d e : Config L) (offered others : List (List Edit)) (es fs : List Edit) → d ≡ e → offered ≡ others → (x : IsFirstTaken G a tok make d offered es) → (y : IsFirstTaken G a tok make e others fs) →
        with_rest d (x.takes.put ++ x.takes.left) ≡ with_rest e (y.takes.put ++ y.takes.left)
    one_repair d e offered others es fs same all x y =
        let t : Takes G a tok make d fs = subst (λ c. Takes G a tok make c fs) (sym same) y.takes in
        let refused : AllByRecursion (Refused d) y.earlier = subst (λ c. AllByRecursion (Refused c) y.earlier) (sym same) y.are_refused in
        let edits : es ≡ fs = one_first d x.earlier y.earlier es fs x.later y.later (sym x.is_offered ∙ all ∙ y.is_offered) x.are_refused refused x.takes t in
        let rests : d.rest ≡ e.rest = ap (λ c. c.rest) same in
        let pairs : Some (x.takes.put, x.takes.left) ≡ Some (y.takes.put, y.takes.left) = sym x.takes.applied ∙ ap (λ l. apply make l d.rest) edits ∙ ap (apply make fs) rests ∙ y.takes.applied in
        let both : (x.takes.put, x.takes.left) ≡ (y.takes.put, y.takes.left) = some_pair (x.takes.put, x.takes.left) (y.takes.put, y.takes.left) pairs in
        ap (λ u. with_rest d (u.0 ++ u.1)) both ∙ ap (λ c. with_rest c (y.takes.put ++ y.takes.left)) same

    module _ (offers : Config L → List (List Edit)) where
      abbrev Same : (r s : Option (Tree L)) (errors others : List (Config L)) (lexemes left : List L) → Type 0
      Same r s errors others lexemes left = (r ≡ s) × (errors ≡ others) × (lexemes ≡ left)

      same_parse : {c e : Config L} {r s : Option (Tree L)} {errors others : List (Config L)} {lexemes left : List L} →
          Parses L G a tok make offers c r errors lexemes → c ≡ e → Parses L G a tok make offers e s others left → Same r s errors others lexemes left
      same_parse {c} {e} (accepts n t h i j k) q (accepts m u h' i' j' k') =
          let same = one_answer L G a tok n m c t u h (ap (run G a tok m) q ∙ h') in
          (i ∙ ap Some same ∙ sym i', j ∙ sym j', k ∙ ap (λ x. stack_yield x.trees ++ x.rest) q ∙ sym k')
      same_parse {c} {e} (accepts n t h i j k) q (gives_up m d h' i' j' k' l') = absurd (not_both L G a tok m n c d t (ap (run G a tok m) q ∙ h') h)
      same_parse {c} {e} (accepts n t h i j k) q (repairs m d es more h' first j' p) = absurd (not_both L G a tok m n c d t (ap (run G a tok m) q ∙ h') h)
      same_parse {c} {e} (gives_up n d h i j k l) q (accepts m u h' i' j' k') = absurd (not_both L G a tok n m c d u h (ap (run G a tok m) q ∙ h'))
      same_parse {c} {e} (gives_up n d h i j k l) q (gives_up m d' h' i' j' k' l') =
          let same = one_failure n m c d d' h (ap (run G a tok m) q ∙ h') in
          (j ∙ sym j', k ∙ ap (λ x. x ∷ []) same ∙ sym k', l ∙ ap (λ x. stack_yield x.trees ++ x.rest) same ∙ sym l')
      same_parse {c} {e} (gives_up n d h i j k l) q (repairs m d' es more h' first j' p) =
          let same = one_failure n m c d d' h (ap (run G a tok m) q ∙ h') in
          absurd (not_refused d' first.earlier es first.later (subst (AllByRecursion (Refused d')) first.is_offered (subst (λ x. AllByRecursion (Refused x) (offers x)) same i)) first.takes)
      same_parse {c} {e} (repairs n d es more h first j p) q (accepts m u h' i' j' k') = absurd (not_both L G a tok n m c d u h (ap (run G a tok m) q ∙ h'))
      same_parse {c} {e} (repairs n d es more h first j p) q (gives_up m d' h' i' j' k' l') =
          let same = one_failure m n c d' d (ap (run G a tok m) q ∙ h') h in
          absurd (not_refused d first.earlier es first.later (subst (AllByRecursion (Refused d)) first.is_offered (subst (λ x. AllByRecursion (Refused x) (offers x)) same i')) first.takes)
      same_parse {c} {e} (repairs n d es more h first j p) q (repairs m d' fs more' h' first' j' p') =
          let same = one_failure n m c d d' h (ap (run G a tok m) q ∙ h') in
          let (x, y, z) = same_parse p (one_repair d d' (offers d) (offers d') es fs same (ap offers same) first first') p' in
          (x, j ∙ ap (λ l. d ∷ l) y ∙ ap (λ k. k ∷ more') same ∙ sym j', z)

pub repaired_parses_are_unique : (L : Type 0) → RepairedParsesAreUnique L
repaired_parses_are_unique L = record { one_answer = λ G a tok make offers c r s errors others lexemes left p q. same_parse L G a tok make offers p refl q }
