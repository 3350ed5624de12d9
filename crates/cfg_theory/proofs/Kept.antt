-- Tables of costs that are kept below a number, and what a production that names a rule does to it.
use Rattle.std.proofs.Common.{◌≡◌, ℕ, zero, suc, ◌+◌, ◌<◌, ◌≤◌, inl, inr, Bool, true, false, List, [], ◌∷◌, ◌++◌, take, drop, slice_get, min, Option, Some, refl, sym, ◌∙◌, subst, arith}
use Rattle.std.specs.Prelude.{IsTrue}
use Rattle.std.proofs.lemmas.Bool.{cases_Bool}
use Rattle.cfg_theory.specs.Grammar.{Sym, rule, token, Grammar, WellFormed, IsOf, IsNext, head_of, body_of}
use Rattle.cfg_theory.specs.Derivation.{Derives, DerivesTokens, IsProductive}
use Rattle.cfg_theory.specs.Productive.{RulesIn}
use Rattle.cfg_theory.specs.Tree.{Tree, leaf, node, Forest, none, before, root, roots, yield, yields, IsTree, AreTrees}
use Rattle.cfg_theory.specs.Cost.{cost, Has, IsGreatestCost, IsUnbounded}
use Rattle.cfg_theory.specs.CostTables.{Sums, Surrounds}
use Rattle.cfg_theory.specs.Greatest.{AreUnbounded, Gains, IsKeptTable, KeptTablesAreExact}
use Rattle.cfg_theory.proofs.Derivation.{tokens_both}
use Rattle.cfg_theory.proofs.Productive.{list_of}
use Rattle.cfg_theory.proofs.Trees.{derivation_of}
use Rattle.cfg_theory.proofs.CostTables.{as_is, cost-append, sums_cons, of_sum, to_sum, roots_productive, surrounded, surrounded_cost, hands_on, chained, produced}

some_same : (m n : ℕ) → Some m ≡ Some n → m ≡ n
some_same m n e = cc

sym_same : (X Y : Sym) → Some X ≡ Some Y → X ≡ Y
sym_same X Y e = cc

module _ (P : ℕ → Type 0) where
  pub rules_one : (X : Sym) (a : List Sym) → RulesIn P (X ∷ a) → RulesIn P (X ∷ [])
  rules_one (rule A) a h = (h.0, tt)
  rules_one (token t) a h = tt

  pub rules_rest : (X : Sym) (a : List Sym) → RulesIn P (X ∷ a) → RulesIn P a
  rules_rest (rule A) a h = h.1
  rules_rest (token t) a h = h

  rules_take : (a : List Sym) (d : ℕ) → RulesIn P a → RulesIn P (take d a)
  rules_take a zero h = tt
  rules_take [] (suc d) h = tt
  rules_take (rule A ∷ a) (suc d) h = (h.0, rules_take a d h.1)
  rules_take (token t ∷ a) (suc d) h = rules_take a d h

  rules_drop : (a : List Sym) (d : ℕ) → RulesIn P a → RulesIn P (drop d a)
  rules_drop a zero h = h
  rules_drop [] (suc d) h = tt
  rules_drop (rule A ∷ a) (suc d) h = rules_drop a d h.1
  rules_drop (token t ∷ a) (suc d) h = rules_drop a d h

  -- from indices to the list
  pub rules_at : (a : List Sym) → ((d A : ℕ) → slice_get a d ≡ Some (rule A) → P A) → RulesIn P a
  rules_at [] h = tt
  rules_at (rule A ∷ a) h = (h 0 A refl, rules_at a (λ d B e. h (suc d) B e))
  rules_at (token t ∷ a) h = rules_at a (λ d B e. h (suc d) B e)

-- What a tree costs, by a table that no production of a kept rule passes.
module _ (G : Grammar) (f : ℕ → ℕ) (top : ℕ) (kept : ℕ → Type 0) (table : ℕ → Option ℕ)
    (down : (p A : ℕ) → IsOf G p A → kept A → RulesIn (IsProductive G) (body_of G p) → RulesIn kept (body_of G p))
    (closed : (p A n : ℕ) → IsOf G p A → kept A → Sums f table (body_of G p) n → (m : ℕ) × (table A ≡ Some m) × (min n top ≤ m)) where
  mutual
    pub tree_most : (t : Tree ℕ) → IsTree G as_is t → RulesIn kept (root G as_is t ∷ []) → (n : ℕ) × Sums f table (root G as_is t ∷ []) n × (min (cost f (yield t)) top ≤ n)
    tree_most (leaf x) h k = (f x, (0, refl, omega arith), omega arith)
    tree_most (node p ts) h k =
        let o : IsOf G p (head_of G p) = record { in_range = h.0; head = refl } in
        let rules : RulesIn (IsProductive G) (body_of G p) = subst (RulesIn (IsProductive G)) h.1 (roots_productive G ts h.2) in
        let inside : RulesIn kept (roots G as_is ts) = subst (RulesIn kept) (sym h.1) (down p (head_of G p) o k.0 rules) in
        let (n, s, le) = forest_most ts h.2 inside in
        let (m, e, lt) = closed p (head_of G p) n o k.0 (subst (λ a. Sums f table a n) h.1 s) in
        (m, to_sum f table (head_of G p) m e, omega (arith, le, lt))

    pub forest_most : (ts : Forest ℕ) → AreTrees G as_is ts → RulesIn kept (roots G as_is ts) → (n : ℕ) × Sums f table (roots G as_is ts) n × (min (cost f (yields ts)) top ≤ n)
    forest_most none h k = (0, refl, omega arith)
    forest_most (before t ts) h k =
        let (m, s, le) = tree_most t h.0 (rules_one kept (root G as_is t) (roots G as_is ts) k) in
        let (n, r, lt) = forest_most ts h.1 (rules_rest kept (root G as_is t) (roots G as_is ts) k) in
        (m + n, sums_cons f table (root G as_is t) (roots G as_is ts) m n s r, omega (arith, le, lt, cost-append f (yield t) (yields ts)))

  pub rule_most : (A : ℕ) (w : List ℕ) → kept A → Has G A w → (m : ℕ) × (table A ≡ Some m) × (min (cost f w) top ≤ m)
  rule_most A w k d =
      let (t, i) = derivation_of ℕ G as_is (rule A) w d in
      let (m, s, le) = tree_most t i.is_tree (subst (λ x. RulesIn kept (x ∷ [])) (sym i.root_is) (k, tt)) in
      (m, of_sum f table A m (subst (λ x. Sums f table (x ∷ []) m) i.root_is s), subst (λ v. min (cost f v) top ≤ m) i.yield_is le)

-- ---- a rule that a production names, with lists of the others around it

module _ (G : Grammar) (f : ℕ → ℕ) where
  same : (A : ℕ) → IsProductive G A → IsProductive G A
  same A h = h

  pub named : (p d A B : ℕ) → IsOf G p A → IsNext G p d (rule B) → RulesIn (IsProductive G) (body_of G p) → (n : ℕ) × Surrounds G f A B n
  named p d A B o at h =
      let (u, i) = list_of G (IsProductive G) same (take d (body_of G p)) (rules_take (IsProductive G) (body_of G p) d h) in
      let (v, j) = list_of G (IsProductive G) same (drop (suc d) (body_of G p)) (rules_drop (IsProductive G) (body_of G p) (suc d) h) in
      (cost f u + cost f v, produced G f p d A B u v o at i j)

  module _ (table : ℕ → Option ℕ) (lists : (A n : ℕ) → table A ≡ Some n → (w : List ℕ) × Has G A w × (n ≤ cost f w)) where
    pub lists_from : (a : List Sym) (n : ℕ) → Sums f table a n → (w : List ℕ) × DerivesTokens G a w × (n ≤ cost f w)
    lists_from [] n s = ([], Derives.none, omega (arith, s))
    lists_from (rule A ∷ a) n (m, k, e, s, q) =
        let (u, d, c) = lists A m e in
        let (v, i, j) = lists_from a k s in
        (u ++ v, tokens_both G u v d i, omega (arith, cost-append f u v, c, j, q))
    lists_from (token t ∷ a) n (k, s, q) =
        let (v, i, j) = lists_from a k s in
        (t ∷ v, tokens_both G (t ∷ []) v Derives.none i, omega (arith, j, q))

    record Around (a : List Sym) (d B n : ℕ) : Type 0 where
      left : ℕ
      here : ℕ
      right : ℕ
      left_is : Sums f table (take d a) left
      here_is : table B ≡ Some here
      right_is : Sums f table (drop (suc d) a) right
      total : n ≡ left + here + right

    around : (a : List Sym) (d B n : ℕ) → slice_get a d ≡ Some (rule B) → Sums f table a n → Around a d B n
    around [] d B n at s = cc
    around (rule A ∷ a) zero B n at (m, k, e, s, q) = record { left = 0; here = m; right = k; left_is = refl; here_is = subst (λ C. table C ≡ Some m) (rules_same (sym_same (rule A) (rule B) at)) e; right_is = s; total = omega (arith, q) }
      where
        rules_same : rule A ≡ rule B → A ≡ B
        rules_same e = cc
    around (token t ∷ a) zero B n at s = absurd (wrong (sym_same (token t) (rule B) at))
      where
        wrong : token t ≡ rule B → ⊥
        wrong e = cc
    around (rule A ∷ a) (suc d) B n at (m, k, e, s, q) =
        let r = around a d B k at s in
        let z = r.total in
        record { left = m + r.left; here = r.here; right = r.right; left_is = (m, r.left, e, r.left_is, refl); here_is = r.here_is; right_is = r.right_is; total = omega (arith, q, z) }
    around (token t ∷ a) (suc d) B n at (k, s, q) =
        let r = around a d B k at s in
        let z = r.total in
        record { left = f t + r.left; here = r.here; right = r.right; left_is = (r.left, r.left_is, refl); here_is = r.here_is; right_is = r.right_is; total = omega (arith, q, z) }

    -- and what these cost
    pub named_costs : (p d A B n : ℕ) → IsOf G p A → IsNext G p d (rule B) → Sums f table (body_of G p) n → (m : ℕ) × (k : ℕ) × Surrounds G f A B m × (table B ≡ Some k) × (n ≤ m + k)
    named_costs p d A B n o at s =
        let r = around (body_of G p) d B n at.at s in
        let (u, i, c) = lists_from (take d (body_of G p)) r.left r.left_is in
        let (v, j, e) = lists_from (drop (suc d) (body_of G p)) r.right r.right_is in
        let z = r.total in
        (cost f u + cost f v, r.here, produced G f p d A B u v o at i j, r.here_is, omega (arith, c, e, z))

-- a rule that derives tokens is one of the grammar's
pub has_in_range : (G : Grammar) → WellFormed G → (A : ℕ) (w : List ℕ) → Has G A w → A < G.rules
has_in_range G good A w d = let (t, i) = derivation_of ℕ G as_is (rule A) w d in by t i.is_tree i.root_is
  where
    by : (t : Tree ℕ) → IsTree G as_is t → root G as_is t ≡ rule A → A < G.rules
    by (leaf x) h e = cc
    by (node p ts) h e = good.heads p A (record { in_range = h.0; head = inner e })
      where
        inner : rule (head_of G p) ≡ rule A → head_of G p ≡ A
        inner e = cc

-- ---- rules that lead on with a gain

module _ (G : Grammar) (f : ℕ → ℕ) (open_rules : ℕ → Bool) (step : (A : ℕ) → IsTrue (open_rules A) → Gains G f open_rules A) where
  far : (k A : ℕ) → IsTrue (open_rules A) → (B : ℕ) × (n : ℕ) × IsTrue (open_rules B) × (k ≤ n) × Surrounds G f A B n
  far zero A h = (A, 0, h, omega arith, record { left = []; right = []; derives = Derives.none; costs = refl })
  far (suc k) A h =
      let s = step A h in
      let r = far k s.to s.within in
      let pos = s.positive in
      let le = r.3 in
      (r.0, s.cost_is + r.1, r.2, omega (arith, pos, le), chained G f A s.to r.0 s.cost_is r.1 s.surrounds r.4)

  pub all_unbounded : (A : ℕ) → IsTrue (open_rules A) → IsUnbounded G f A
  all_unbounded A h n =
      let r = far (suc n) A h in
      let (w, d) = (step r.0 r.2).productive in
      let s = r.4 in
      let le = r.3 in
      (s.left ++ (w ++ s.right), surrounded G f A r.0 r.1 w s d, omega (arith, surrounded_cost G f A r.0 r.1 w s, le))

-- ---- what stays bounded

module _ (G : Grammar) (f : ℕ → ℕ) (open_rules : ℕ → Bool) (h : AreUnbounded G f open_rules) where
  abbrev pub Kept : ℕ → Type 0
  Kept A = open_rules A ≡ false

  pub kept_down : (p A : ℕ) → IsOf G p A → Kept A → RulesIn (IsProductive G) (body_of G p) → RulesIn Kept (body_of G p)
  kept_down p A o k rules = rules_at Kept (body_of G p) (λ d B e. elim (cases_Bool (open_rules B)) [ inl q ↦ absurd (wrong d B e q) | inr q ↦ q ])
    where
      wrong : (d B : ℕ) → slice_get (body_of G p) d ≡ Some (rule B) → open_rules B ≡ true → ⊥
      wrong d B e q =
          let (n, s) = named G f p d A B o (record { at = e }) rules in
          let (w, x, lt) = hands_on G f A B n s (h.unbounded B q) h.bounded.0 in
          let le = h.bounded.1 A w k x in
          omega (arith, lt, le)

  module _ (top : ℕ) (table : ℕ → Option ℕ) (t : IsKeptTable G f top open_rules table) where
    most : (A : ℕ) (w : List ℕ) → Kept A → Has G A w → (m : ℕ) × (table A ≡ Some m) × (min (cost f w) top ≤ m)
    most A w k d = rule_most G f top Kept table kept_down (λ p B n o i s. t.closed p B n o i s) A w k d

    pub exact_below : (A n : ℕ) → Kept A → table A ≡ Some n → n < top → IsGreatestCost G f A n
    exact_below A n k e lt =
        let (w, d, ge, le) = t.lists A n e in
        let low = le lt in
        record { list = w; has = d; cost_is = omega (arith, ge, low); greatest = λ v x. let (m, q, c) = most A v k x in let s = some_same n m (sym e ∙ q) in omega (arith, c, s, lt) }

    pub some_cost : (A : ℕ) → Kept A → IsProductive G A → (n : ℕ) × (table A ≡ Some n)
    some_cost A k (w, d) = let (m, q, c) = most A w k d in (m, q)

pub kept_tables_exact : KeptTablesAreExact
kept_tables_exact = record {
  exact = λ G f top open_rules table h t. exact_below G f open_rules h top table t;
  some = λ G f top open_rules table h t. some_cost G f open_rules h top table t;
}
