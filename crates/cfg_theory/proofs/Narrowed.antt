-- Rules that leave a narrowed set are bounded.
use Rattle.std.proofs.Common.{◌≡◌, ℕ, zero, suc, ◌+◌, ◌<◌, ◌≤◌, inl, inr, Bool, true, false, List, [], ◌∷◌, length, get_or, min, Option, Some, refl, sym, ap, ◌∙◌, subst, arith}
use Rattle.std.specs.Prelude.{IsTrue}
use Rattle.std.proofs.lemmas.Bool.{cases_Bool, cases_lt}
use Rattle.cfg_theory.specs.Grammar.{Sym, rule, token, Production, Grammar, IsOf, IsNext, head_of, body_of}
use Rattle.cfg_theory.specs.Productive.{RulesIn}
use Rattle.cfg_theory.specs.Tree.{Tree, leaf, node, Forest, none, before, root, roots, yield, yields, IsTree, AreTrees}
use Rattle.cfg_theory.specs.Cost.{cost, Has}
use Rattle.cfg_theory.specs.CostTables.{Sums}
use Rattle.cfg_theory.specs.Greatest.{IsBoundedBy, IsKeptTable, IsNarrowed, UnboundedSets}
use Rattle.cfg_theory.proofs.Trees.{derivation_of, tree_derives}
use Rattle.cfg_theory.proofs.CostTables.{as_is, cost-append, sums_split, of_sum, one_sum}
use Rattle.cfg_theory.proofs.Kept.{rules_one, rules_rest, rules_at, tree_most, forest_most, all_unbounded}

-- the greatest cost of a list whose rules cost n
abbrev size : (ℕ → ℕ) → ℕ → List Sym → ℕ
size f n [] = 0
size f n (rule A ∷ a) = n + size f n a
size f n (token t ∷ a) = f t + size f n a

abbrev sizes : (ℕ → ℕ) → ℕ → List Production → ℕ
sizes f n [] = 0
sizes f n (q ∷ l) = size f n q.body + sizes f n l

size_within : (f : ℕ → ℕ) (n : ℕ) (l : List Production) (p : ℕ) (d : Production) → p < length l → size f n (get_or l p d).body ≤ sizes f n l
size_within f n [] p d lt = absurd (omega (arith, lt))
size_within f n (q ∷ l) zero d lt = omega arith
size_within f n (q ∷ l) (suc p) d lt = let h = size_within f n l p d (omega (arith, lt)) in omega (arith, h)

body_within : (G : Grammar) (f : ℕ → ℕ) (n p : ℕ) → p < length G.productions → size f n (body_of G p) ≤ sizes f n G.productions
unfolding body_of
body_within G f n p lt = size_within f n G.productions p (record { head = 0; body = [] }) lt

module _ (G : Grammar) (f : ℕ → ℕ) (costs : ℕ → Option ℕ) (old new : ℕ → Bool) (n : ℕ) (table : IsKeptTable G f 1 (λ _. false) costs) (bounded : IsBoundedBy G f old n) (narrow : IsNarrowed G f costs old new) where
  abbrev Outside : (ℕ → Bool) → ℕ → Type 0
  Outside s A = s A ≡ false

  -- the bound
  pub top : ℕ
  top = suc (n + sizes f n G.productions)

  each : (a : List Sym) → RulesIn (λ A. false ≡ false) a
  each a = rules_at (λ A. false ≡ false) a (λ d A e. refl)

  of_tree : (t : Tree ℕ) → IsTree G as_is t → (k : ℕ) × Sums f costs (root G as_is t ∷ []) k × (min (cost f (yield t)) 1 ≤ k)
  of_tree t h = tree_most G f 1 (λ A. false ≡ false) costs (λ p A o k r. each (body_of G p)) (λ p A k o i s. table.closed p A k o i s) t h (each (root G as_is t ∷ []))

  of_forest : (ts : Forest ℕ) → AreTrees G as_is ts → (k : ℕ) × Sums f costs (roots G as_is ts) k × (min (cost f (yields ts)) 1 ≤ k)
  of_forest ts h = forest_most G f 1 (λ A. false ≡ false) costs (λ p A o k r. each (body_of G p)) (λ p A k o i s. table.closed p A k o i s) ts h (each (roots G as_is ts))

  -- trees of rules outside of the old set
  old_tree : (t : Tree ℕ) → IsTree G as_is t → (a : List Sym) → RulesIn (Outside old) (root G as_is t ∷ a) → cost f (yield t) + size f n a ≤ size f n (root G as_is t ∷ a)
  old_tree (leaf x) h a k = omega arith
  old_tree (node p ts) h a k = let le = bounded (head_of G p) (yields ts) k.0 (tree_derives ℕ G as_is (node p ts) h) in omega (arith, le)

  old_forest : (ts : Forest ℕ) → AreTrees G as_is ts → RulesIn (Outside old) (roots G as_is ts) → cost f (yields ts) ≤ size f n (roots G as_is ts)
  old_forest none h k = omega arith
  old_forest (before t ts) h k =
      let le = old_tree t h.0 (roots G as_is ts) k in
      let lt = old_forest ts h.1 (rules_rest (Outside old) (root G as_is t) (roots G as_is ts) k) in
      omega (arith, le, lt, cost-append f (yield t) (yields ts))

  outside : (s : ℕ → Bool) (A : ℕ) → (IsTrue (s A) → ⊥) → Outside s A
  outside s A h = elim (cases_Bool (s A)) [ inl q ↦ absurd (h q) | inr q ↦ q ]

  never : (b : Bool) → IsTrue b → b ≡ false → ⊥
  never b h e = wrong (sym h ∙ e)
    where
      wrong : true ≡ false → ⊥
      wrong e = cc

  several : (p A k : ℕ) → IsOf G p A → Outside new A → Sums f costs (body_of G p) k → 2 ≤ k → RulesIn (Outside old) (body_of G p)
  several p A k o i s le = rules_at (Outside old) (body_of G p) (λ d B e. outside old B (λ h. never (new A) (narrow.several p d A B k o s le (record { at = e }) h) i))

  single : (p A k : ℕ) → IsOf G p A → Outside new A → Sums f costs (body_of G p) k → k < 2 → RulesIn (Outside new) (body_of G p)
  single p A k o i s lt = rules_at (Outside new) (body_of G p) (λ d B e. outside new B (λ h. never (new A) (narrow.single p d A B k o s lt (record { at = e }) h) i))

  -- where two symbols cost something, the others are outside of the old set
  by_several : (p k : ℕ) (ts : Forest ℕ) → (h : IsTree G as_is (node p ts)) → Outside new (head_of G p) → Sums f costs (roots G as_is ts) k → 2 ≤ k → cost f (yields ts) ≤ top
  unfolding top
  by_several p k ts h i s le =
      let o : IsOf G p (head_of G p) = record { in_range = h.0; head = refl } in
      let rules = several p (head_of G p) k o i (subst (λ a. Sums f costs a k) h.1 s) le in
      let lt = old_forest ts h.2 (subst (RulesIn (Outside old)) (sym h.1) rules) in
      let e = ap (size f n) h.1 in
      let within = body_within G f n p h.0 in
      omega (arith, lt, e, within)

  nothing : (t : Tree ℕ) → (h : IsTree G as_is t) → Sums f costs (root G as_is t ∷ []) 0 → cost f (yield t) ≡ 0
  nothing t h s =
      let (k, r, le) = of_tree t h in
      let e = one_sum f costs (root G as_is t ∷ []) k 0 r s in
      omega (arith, le, e)

  nothing_in : (ts : Forest ℕ) → (h : AreTrees G as_is ts) → Sums f costs (roots G as_is ts) 0 → cost f (yields ts) ≡ 0
  nothing_in ts h s =
      let (k, r, le) = of_forest ts h in
      let e = one_sum f costs (roots G as_is ts) k 0 r s in
      omega (arith, le, e)

  leaf_low : (x k : ℕ) → Sums f costs (token x ∷ []) k → k < 2 → f x + 0 ≤ top
  unfolding top
  leaf_low x k (j, z, q) lt = omega (arith, z, q, lt)

  mutual
    new_tree : (t : Tree ℕ) → IsTree G as_is t → RulesIn (Outside new) (root G as_is t ∷ []) → (k : ℕ) → Sums f costs (root G as_is t ∷ []) k → k < 2 → cost f (yield t) ≤ top
    new_tree (leaf x) h i k s lt = leaf_low x k s lt
    new_tree (node p ts) h i k s lt =
        let (m, r, le) = of_forest ts h.2 in
        elim (cases_lt m 2) [
          | inl less ↦ new_forest ts h.2 (subst (RulesIn (Outside new)) (sym h.1) (single p (head_of G p) m (record { in_range = h.0; head = refl }) i.0 (subst (λ a. Sums f costs a m) h.1 r) less)) m r less
          | inr more ↦ by_several p m ts h i.0 r more
        ]

    new_forest : (ts : Forest ℕ) → AreTrees G as_is ts → RulesIn (Outside new) (roots G as_is ts) → (k : ℕ) → Sums f costs (roots G as_is ts) k → k < 2 → cost f (yields ts) ≤ top
    new_forest none h i k s lt = omega arith
    new_forest (before t ts) h i k s lt =
        let parts = sums_split f costs (root G as_is t) (roots G as_is ts) k s in
        let total = parts.total in
        let c = cost-append f (yield t) (yields ts) in
        let rest = rules_rest (Outside new) (root G as_is t) (roots G as_is ts) i in
        let here = rules_one (Outside new) (root G as_is t) (roots G as_is ts) i in
        elim (cases_lt parts.one 1) [
          | inl less ↦ (let z = nothing t h.0 (subst (Sums f costs (root G as_is t ∷ [])) (omega (arith, less)) parts.first) in
              let le = new_forest ts h.1 rest parts.others parts.rest (omega (arith, total, lt)) in
              omega (arith, z, le, c))
          | inr more ↦ (let z = nothing_in ts h.1 (subst (Sums f costs (roots G as_is ts)) (omega (arith, more, total, lt)) parts.rest) in
              let le = new_tree t h.0 here parts.one parts.first (omega (arith, total, lt)) in
              omega (arith, z, le, c))
        ]

  pub still_bounded : IsBoundedBy G f new top
  still_bounded A w i d =
      let (t, r) = derivation_of ℕ G as_is (rule A) w d in
      let (k, s, le) = of_tree t r.is_tree in
      let e : costs A ≡ Some k = of_sum f costs A k (subst (λ x. Sums f costs (x ∷ []) k) r.root_is s) in
      let low = table.within A k e in
      subst (λ v. cost f v ≤ top) r.yield_is (new_tree t r.is_tree (subst (λ x. RulesIn (Outside new) (x ∷ [])) (sym r.root_is) (i, tt)) k s (omega (arith, low)))

-- a rule whose productions lead out of the set
module _ (G : Grammar) (f : ℕ → ℕ) (costs : ℕ → Option ℕ) (old : ℕ → Bool) (n A : ℕ) (table : IsKeptTable G f 1 (λ _. false) costs) (bounded : IsBoundedBy G f old n) (out : (p k d B : ℕ) → IsOf G p A → Sums f costs (body_of G p) k → IsNext G p d (rule B) → old B ≡ false) where
  all_kept : IsNarrowed G f costs old (λ _. true)
  all_kept = record { several = λ p d B C k o s le next h. refl; single = λ p d B C k o s le next h. refl }

  settled_tree : (t : Tree ℕ) → IsTree G as_is t → root G as_is t ≡ rule A → cost f (yield t) ≤ sizes f n G.productions
  settled_tree (leaf x) h e = cc
  settled_tree (node p ts) h e =
      let r = of_forest G f costs old (λ _. true) n table bounded all_kept ts h.2 in
      let o : IsOf G p A = record { in_range = h.0; head = inner e } in
      let rules : RulesIn (λ B. old B ≡ false) (body_of G p) = rules_at (λ B. old B ≡ false) (body_of G p) (λ d B q. out p r.0 d B o (subst (λ a. Sums f costs a r.0) h.1 r.1) (record { at = q })) in
      let le = old_forest G f costs old (λ _. true) n table bounded all_kept ts h.2 (subst (RulesIn (λ B. old B ≡ false)) (sym h.1) rules) in
      let same = ap (size f n) h.1 in
      let within = body_within G f n p h.0 in
      omega (arith, le, same, within)
    where
      inner : rule (head_of G p) ≡ rule A → head_of G p ≡ A
      inner e = cc

  settled : (m : ℕ) × ((w : List ℕ) → Has G A w → cost f w ≤ m)
  settled = (sizes f n G.productions, λ w d. of_rule w d)
    where
      of_rule : (w : List ℕ) → Has G A w → cost f w ≤ sizes f n G.productions
      of_rule w d = let (t, i) = derivation_of ℕ G as_is (rule A) w d in subst (λ v. cost f v ≤ sizes f n G.productions) i.yield_is (settled_tree t i.is_tree i.root_is)

pub unbounded_sets : UnboundedSets
unbounded_sets = record {
  settled = λ G f costs old n A table bounded out. settled G f costs old n A table bounded out;
  unbounded = λ G f open_rules step. all_unbounded G f open_rules step;
  narrowed = λ G f costs old new n table bounded narrow. (top G f costs old new n table bounded narrow, still_bounded G f costs old new n table bounded narrow);
}
