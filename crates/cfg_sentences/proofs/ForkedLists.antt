-- Of lists that fork it doesn't matter what stands behind them, so that the first cheapest list of each wanted rule is put together of
-- the first ones of the rules that it needs, as long as those that took the place of others fork before them.
use Rattle.std.proofs.Common.{◌≡◌, ℕ, ◌<◌, ◌≤◌, ◌⊎◌, inl, inr, List, [], ◌∷◌, ◌++◌, Bool, Option, Some, refl, sym, ap, ◌∙◌, subst, append-nil, arith}
use Rattle.std.specs.Prelude.{Contains, IsTrue}
use Rattle.cfg_theory.specs.Grammar.{Sym, rule, token, Grammar, IsOf, head_of, body_of}
use Rattle.cfg_theory.specs.Productive.{RulesIn}
use Rattle.cfg_theory.specs.Tree.{Tree, leaf, node, Forest, none, before, root, roots, yield, yields, IsTree, AreTrees}
use Rattle.cfg_theory.specs.Cost.{cost, IsCheapest, IsLeastCost, IsBefore}
use Rattle.cfg_theory.specs.CostTables.{Sums, Concatenates}
use Rattle.cfg_theory.specs.CheapestLists.{NoneIsCheaper, IsTight}
use Rattle.cfg_theory.proofs.Trees.{derivation_of}
use Rattle.cfg_theory.proofs.CostTables.{cost-append, as_is, sums_split, one_sum, of_sum, to_sum, tree_least, forest_least, concatenates_cons}
use Rattle.cfg_sentences.specs.SharedLists.{ForksBefore, IsLead}
use Rattle.cfg_sentences.specs.EarliestTable.{HasLead}

some_same : (m n : ℕ) → Some m ≡ Some n → m ≡ n
some_same m n e = cc

-- ---- lists that fork

before_of : {u v : List ℕ} → ForksBefore u v → IsBefore u v
before_of (ForksBefore.smaller lt) = IsBefore.smaller lt
before_of (ForksBefore.later h) = IsBefore.later (before_of h)

pub lead_is_first : (u v : List ℕ) → IsLead u v → (v ≡ u) ⊎ IsBefore u v
lead_is_first u v (inl e) = inl e
lead_is_first u v (inr h) = inr (before_of h)

forks_next : {u v w : List ℕ} → ForksBefore u v → ForksBefore v w → ForksBefore u w
forks_next (ForksBefore.smaller lt) (ForksBefore.smaller le) = ForksBefore.smaller (omega arith)
forks_next (ForksBefore.smaller lt) (ForksBefore.later k) = ForksBefore.smaller lt
forks_next (ForksBefore.later h) (ForksBefore.smaller lt) = ForksBefore.smaller lt
forks_next (ForksBefore.later h) (ForksBefore.later k) = ForksBefore.later (forks_next h k)

-- one after another
pub forks_on : (u v w : List ℕ) → ForksBefore u v → IsLead v w → ForksBefore u w
forks_on u v w h (inl e) = subst (ForksBefore u) (sym e) h
forks_on u v w h (inr k) = forks_next h k

leads_on : (u v w : List ℕ) → IsLead u v → IsLead v w → IsLead u w
leads_on u v w (inl e) k = subst (λ l. IsLead l w) e k
leads_on u v w (inr h) k = inr (forks_on u v w h k)

-- behind one list
pub forks_behind : (s u v : List ℕ) → ForksBefore u v → ForksBefore (s ++ u) (s ++ v)
forks_behind [] u v h = h
forks_behind (t ∷ s) u v h = ForksBefore.later (forks_behind s u v h)

-- whatever stands behind them
pub forks_both : (a b u v : List ℕ) → ForksBefore a u → ForksBefore (a ++ b) (u ++ v)
forks_both a b u v (ForksBefore.smaller lt) = ForksBefore.smaller lt
forks_both (t ∷ a) b (s ∷ u) v (ForksBefore.later h) = ForksBefore.later (forks_both a b u v h)

leads_both : (a b u v : List ℕ) → IsLead a u → IsLead b v → IsLead (a ++ b) (u ++ v)
leads_both a b u v (inr h) k = inr (forks_both a b u v h)
leads_both a b u v (inl e) (inl q) = inl (ap (λ l. l ++ v) e ∙ ap (λ l. a ++ l) q)
leads_both a b u v (inl e) (inr k) = inr (subst (λ l. ForksBefore (a ++ b) (l ++ v)) (sym e) (forks_behind a b v k))

-- ---- derivations

module _ (G : Grammar) (f : ℕ → ℕ) (least : ℕ → Option ℕ) (top : ℕ) (wanted : ℕ → Bool) (lists : ℕ → List (List ℕ)) (none_cheaper : NoneIsCheaper G f least)
    (handed_on : (p A n : ℕ) → n < top → IsTrue (wanted A) → IsTight G f least p A n → RulesIn (λ B. IsTrue (wanted B)) (body_of G p))
    (closed : (p A n : ℕ) (w : List ℕ) → n < top → IsTrue (wanted A) → IsTight G f least p A n → Concatenates lists (body_of G p) w → HasLead (lists A) w) where
  -- what the symbols put together leads w
  abbrev Found : List Sym → List ℕ → Type 0
  Found a w = (v : List ℕ) × Concatenates lists a v × IsLead v w

  head_in : (x : Sym) (a : List Sym) → RulesIn (λ B. IsTrue (wanted B)) (x ∷ a) → RulesIn (λ B. IsTrue (wanted B)) (x ∷ [])
  head_in (rule A) a r = (r.0, tt)
  head_in (token t) a r = tt

  tail_in : (x : Sym) (a : List Sym) → RulesIn (λ B. IsTrue (wanted B)) (x ∷ a) → RulesIn (λ B. IsTrue (wanted B)) a
  tail_in (rule A) a r = r.1
  tail_in (token t) a r = r

  of_rule : (A : ℕ) (w : List ℕ) → HasLead (lists A) w → Found (rule A ∷ []) w
  of_rule A w (v, c, up) = (v, (v, [], c, refl, sym (append-nil v)), up)

  mutual
    tree_found : (t : Tree ℕ) → IsTree G as_is t → RulesIn (λ B. IsTrue (wanted B)) (root G as_is t ∷ []) → (n : ℕ) → n < top → Sums f least (root G as_is t ∷ []) n → cost f (yield t) ≤ n → Found (root G as_is t ∷ []) (yield t)
    tree_found (leaf x) i r n low s le = (x ∷ [], ([], refl, refl), inl refl)
    tree_found (node p ts) i r n low s le =
        let e = of_sum f least (head_of G p) n s in
        let o : IsOf G p (head_of G p) = record { in_range = i.0; head = refl } in
        let (j, sums, lt) = forest_least G f least none_cheaper ts i.2 in
        let (m, q, lm) = none_cheaper p (head_of G p) j o (subst (λ a. Sums f least a j) i.1 sums) in
        let same = some_same n m (sym e ∙ q) in
        let jn : j ≡ n = omega (arith, le, lt, lm, same) in
        let tight : IsTight G f least p (head_of G p) n = record { is_of = o; has_cost = e; sums = subst (λ a. Sums f least a n) i.1 (subst (Sums f least (roots G as_is ts)) jn sums) } in
        let inner : RulesIn (λ B. IsTrue (wanted B)) (roots G as_is ts) = subst (RulesIn (λ B. IsTrue (wanted B))) (sym i.1) (handed_on p (head_of G p) n low r.0 tight) in
        let (v, whole, up) = forest_found ts i.2 inner j (omega (arith, jn, low)) sums (omega (arith, le, jn)) in
        let (u, there, up') = closed p (head_of G p) n v low r.0 tight (subst (λ a. Concatenates lists a v) i.1 whole) in
        of_rule (head_of G p) (yields ts) (u, there, leads_on u v (yields ts) up' up)

    forest_found : (ts : Forest ℕ) → AreTrees G as_is ts → RulesIn (λ B. IsTrue (wanted B)) (roots G as_is ts) → (n : ℕ) → n < top → Sums f least (roots G as_is ts) n → cost f (yields ts) ≤ n → Found (roots G as_is ts) (yields ts)
    forest_found none i r n low s le = ([], refl, inl refl)
    forest_found (before t ts) i r n low s le =
        let parts = sums_split f least (root G as_is t) (roots G as_is ts) n s in
        let (m, x, lm) = tree_least G f least none_cheaper t i.0 in
        let (j, u, lj) = forest_least G f least none_cheaper ts i.1 in
        let em = one_sum f least (root G as_is t ∷ []) m parts.one x parts.first in
        let ej = one_sum f least (roots G as_is ts) j parts.others u parts.rest in
        let c = cost-append f (yield t) (yields ts) in
        let (a, ca, ua) = tree_found t i.0 (head_in (root G as_is t) (roots G as_is ts) r) parts.one (let x = parts.total in omega (arith, x, low)) parts.first (omega (arith, le, lm, lj, em, ej, c, parts.total)) in
        let (b, cb, ub) = forest_found ts i.1 (tail_in (root G as_is t) (roots G as_is ts) r) parts.others (let x = parts.total in omega (arith, x, low)) parts.rest (omega (arith, le, lm, lj, em, ej, c, parts.total)) in
        (a ++ b, concatenates_cons lists (root G as_is t) (roots G as_is ts) a b ca cb, leads_both a b (yield t) (yields ts) ua ub)

  one_of : (A : ℕ) (w : List ℕ) → Found (rule A ∷ []) w → HasLead (lists A) w
  one_of A w (x, (u, v, c, e, q), up) = (u, c, subst (λ l. IsLead l w) (q ∙ ap (λ l. u ++ l) e ∙ append-nil u) up)

  -- each cheapest list of a wanted rule is led by one that is there
  pub all_led : (A n : ℕ) (w : List ℕ) → n < top → IsTrue (wanted A) → least A ≡ Some n → IsLeastCost G f A n → IsCheapest G f A w → HasLead (lists A) w
  all_led A n w low want e (v, cheapest, c) d =
      let (t, i) = derivation_of ℕ G as_is (rule A) w d.has in
      let lt = d.least v cheapest.has in
      of_root t i.is_tree i.root_is i.yield_is (subst (λ u. cost f u ≤ n) (sym i.yield_is) (omega (arith, lt, c)))
    where
      of_root : (t : Tree ℕ) → IsTree G as_is t → root G as_is t ≡ rule A → yield t ≡ w → cost f (yield t) ≤ n → HasLead (lists A) w
      of_root (leaf x) i r y le = cc
      of_root (node p ts) i r y le =
          let s : Sums f least (root G as_is (node p ts) ∷ []) n = subst (λ x. Sums f least (x ∷ []) n) (sym r) (to_sum f least A n e) in
          let wants : RulesIn (λ B. IsTrue (wanted B)) (root G as_is (node p ts) ∷ []) = subst (λ x. RulesIn (λ B. IsTrue (wanted B)) (x ∷ [])) (sym r) (want, tt) in
          one_of A w (subst (Found (rule A ∷ [])) y (subst (λ x. Found (x ∷ []) (yields ts)) r (tree_found (node p ts) i wants n low s le)))
