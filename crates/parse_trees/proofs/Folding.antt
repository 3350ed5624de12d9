-- Values and spans that functions give stay beside the machine's trees.
use Rattle.std.proofs.Common.{◌≡◌, ℕ, ◌-◌, ◌≤◌, List, [], ◌∷◌, ◌++◌, length, reverse, Some, sym, ap, ◌∙◌, subst, arith, ⊎_elim}
use Rattle.std.specs.Prelude.{slice_index_or}
use Rattle.std.proofs.lemmas.List.{take_all, length-append, length-reverse, reverse-reverse}
use Rattle.cfg_base.specs.SpanModel.{SpanModel}
use Rattle.cfg_theory.specs.Grammar.{Grammar, head_of}
use Rattle.cfg_theory.specs.Tree.{Tree, leaf, node, Forest, none}
use Rattle.cfg_theory.specs.Fold.{Span, no_span, Answers, Folds}
use Rattle.lr_theory.specs.Machine.{pop}
use Rattle.lr_theory.specs.StackValues.{StackFolds}
use Rattle.parse_trees.specs.Stacks.{span_of_places, IsFolded, StartsAscend, StartBy, FoldedStand}
use Rattle.parse_trees.proofs.SpanStacks.{pushed_at, ascend_pushed}
use Rattle.parse_trees.proofs.BesideTrees.{beside_shifted, beside_reduced, popped_within}

-- an entry that starts no earlier is put on
pub start_pushed : (spans : List SpanModel) (place : SpanModel) → StartBy spans place.start → StartBy (spans ++ place ∷ []) place.start
start_pushed spans place up = subst (λ l. StartBy (l ++ place ∷ []) place.start) (take_all (length spans) spans (omega arith)) (record {
  by = λ k x e. ⊎_elim
      (λ h. up.by k x h.1)
      (λ h. let s = ap (λ (q : SpanModel). q.start) h.1 in omega (arith, s))
      (pushed_at spans (length spans) k place x (omega arith) e);
})

ascend_put : (spans : List SpanModel) (place : SpanModel) → StartsAscend spans → StartBy spans place.start → StartsAscend (spans ++ place ∷ [])
ascend_put spans place up by = subst (λ l. StartsAscend (l ++ place ∷ [])) (take_all (length spans) spans (omega arith)) (ascend_pushed spans (length spans) place up (omega arith) (λ j x lt e. by.by j x e))

module _ {L V : Type 0} (term nonterm : Type 0) (G : Grammar) (by : Answers L V) (at : L → Span) where
  folds_length : (ts : List (Tree L)) (vs : List V) → StackFolds G by at ts vs → length ts ≡ length vs
  folds_length [] vs h = sym (ap length h)
  folds_length (t ∷ ts) vs h =
      let below = folds_length ts h.1 h.4 in
      let same = ap length h.2 in
      omega (arith, below, same)

  module _ (values : List V) (spans : List SpanModel) (ts : List (Tree L)) (h : FoldedStand term nonterm G by at values spans ts) where
    -- there is a value for each tree
    pub values_enough : (n : ℕ) → n ≤ length ts → n ≤ length values
    values_enough n le =
        let same = folds_length ts (reverse values) h.beside.folds in
        let turned = length-reverse values in
        omega (arith, le, same, turned)

    pub stand_shifted : (x : L) (v : V) (place : SpanModel) → by.term x v → span_of_places place ≡ at x → StartBy spans place.start → FoldedStand term nonterm G by at (values ++ v ∷ []) (spans ++ place ∷ []) (leaf x ∷ ts)
    stand_shifted x v place gives is up =
        let m = length-append spans (place ∷ []) in
        let n = length-append values (v ∷ []) in
        let level = h.level in
        record {
          term_callable = h.term_callable;
          nonterm_callable = h.nonterm_callable;
          beside = beside_shifted G by at values spans ts x v place h.beside gives is;
          level = omega (arith, m, n, level);
          ascend = ascend_put spans place h.ascend up;
        }

    pub stand_reduced : (says : ℕ → ℕ → Span → List V → V → Type 0) → ((p r : ℕ) (s : Span) (vs : List V) (v : V) → says p r s vs v → by.says p r s vs v) → (p r n : ℕ) (f : Forest L) (below : List (Tree L)) (values' : List V) (spans' : List SpanModel) →
        r ≡ head_of G p → pop n ts none ≡ Some (f, below) → IsFolded says p r n values spans values' spans' → length spans' ≡ length values' → StartsAscend spans' → FoldedStand term nonterm G by at values' spans' (node p f ∷ below)
    stand_reduced says weaker p r n f below values' spans' is popped k level ascend =
        let enough = values_enough n (popped_within n ts none (f, below) popped) in
        let same = h.level in
        let folded : IsFolded by.says p r n values spans values' spans' = record { value = k.value; place = k.place; span_is = k.span_is; says_so = weaker p r (span_of_places k.place) _ k.value k.says_so; values_are = k.values_are; spans_are = k.spans_are } in
        record {
          term_callable = h.term_callable;
          nonterm_callable = h.nonterm_callable;
          beside = beside_reduced G by at values spans ts p n f below values' spans' h.beside popped enough (omega (arith, enough, same)) (subst (λ q. IsFolded by.says p q n values spans values' spans') is folded);
          level = level;
          ascend = ascend;
        }

-- a tree alone has one value
pub value_alone : {L V : Type 0} (term nonterm : Type 0) (G : Grammar) (by : Answers L V) (at : L → Span) (values : List V) (spans : List SpanModel) (t : Tree L) → FoldedStand term nonterm G by at values spans (t ∷ []) → (v : V) × (values ≡ v ∷ []) × Folds G by at no_span t v
value_alone term nonterm G by at values spans t h =
    let f = h.beside.folds in
    let vs : reverse values ≡ f.0 ∷ [] = f.2 ∙ ap (λ l. f.0 ∷ l) f.4 in
    (f.0, sym (reverse-reverse values) ∙ ap reverse vs, f.3)

pub last_alone : {X : Type 0} (xs : List X) (n : ℕ) (x d : X) → xs ≡ x ∷ [] → n ≡ length xs → slice_index_or xs (n - 1) d ≡ x
last_alone xs n x d is len =
    let one : n ≡ 1 = len ∙ ap length is in
    ap (λ m. slice_index_or xs (m - 1) d) one ∙ ap (λ l. slice_index_or l 0 d) is
