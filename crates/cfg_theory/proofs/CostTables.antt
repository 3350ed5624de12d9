-- Tables of least and greatest costs and of cheapest lists are exact, and rules on cycles that cost something are unbounded.
use Rattle.std.proofs.Common.{◌≡◌, ℕ, zero, suc, ◌+◌, ◌<◌, ◌≤◌, ◌↔◌, List, [], ◌∷◌, ◌++◌, map, take, drop, Option, Some, None, refl, sym, ap, ◌∙◌, subst, append_assoc, append-nil, arith}
use Rattle.std.specs.Prelude.{Contains}
use Rattle.std.proofs.lemmas.List.{map-append}
use Rattle.cfg_theory.specs.Grammar.{Sym, rule, token, Grammar, IsOf, IsNext, head_of, body_of}
use Rattle.cfg_theory.specs.Derivation.{Derives, DerivesTokens, IsProductive}
use Rattle.cfg_theory.specs.Productive.{RulesIn}
use Rattle.cfg_theory.specs.Tree.{Tree, leaf, node, Forest, none, before, root, roots, yield, yields, IsTree, AreTrees}
use Rattle.cfg_theory.specs.Cost.{cost, Has, IsCheapest, IsLeastCost, IsGreatestCost, IsUnbounded}
use Rattle.cfg_theory.specs.CostTables.{Sums, HasLists, IsLeastTable, IsGreatestTable, Surrounds, Concatenates, IsCheapestTable, CostTablesAreExact, UnboundedByCycles}
use Rattle.cfg_theory.proofs.Derivation.{derives_on, derives_within, derives_rule, derives_both, tokens_both}
use Rattle.cfg_theory.proofs.Follow.{split_body}
use Rattle.cfg_theory.proofs.Trees.{tree_derives, derivation_of}

pub cost-append : (f : ℕ → ℕ) (u v : List ℕ) → cost f (u ++ v) ≡ cost f u + cost f v
cost-append f [] v = omega arith
cost-append f (t ∷ u) v = let h = cost-append f u v in omega (arith, h)

abbrev pub as_is : ℕ → ℕ
as_is t = t

rule_same : (A B : ℕ) → rule A ≡ rule B → A ≡ B
rule_same A B e = cc

some_same : (m n : ℕ) → Some m ≡ Some n → m ≡ n
some_same m n e = cc

module _ (f : ℕ → ℕ) (table : ℕ → Option ℕ) where
  pub sums_cons : (x : Sym) (a : List Sym) (m k : ℕ) → Sums f table (x ∷ []) m → Sums f table a k → Sums f table (x ∷ a) (m + k)
  sums_cons (rule A) a m k (i, j, e, z, q) s = (i, k, e, s, omega (arith, z, q))
  sums_cons (token t) a m k (j, z, q) s = (k, s, omega (arith, z, q))

  pub record Parts (x : Sym) (a : List Sym) (n : ℕ) : Type 0 where
    pub one : ℕ
    pub others : ℕ
    pub first : Sums f table (x ∷ []) one
    pub rest : Sums f table a others
    pub total : n ≡ one + others

  pub sums_split : (x : Sym) (a : List Sym) (n : ℕ) → Sums f table (x ∷ a) n → Parts x a n
  sums_split (rule A) a n (m, k, e, s, q) = record { one = m; others = k; first = (m, 0, e, refl, omega arith); rest = s; total = q }
  sums_split (token t) a n (k, s, q) = record { one = f t; others = k; first = (0, refl, omega arith); rest = s; total = q }

  pub one_sum : (a : List Sym) (m n : ℕ) → Sums f table a m → Sums f table a n → m ≡ n
  one_sum [] m n h k = h ∙ sym k
  one_sum (rule A ∷ a) m n (i, j, e, s, q) (i', j', e', s', q') =
      let p = some_same i i' (sym e ∙ e') in
      let r = one_sum a j j' s s' in
      omega (arith, p, q, q', r)
  one_sum (token t ∷ a) m n (j, s, q) (j', s', q') = let r = one_sum a j j' s s' in omega (arith, q, q', r)

  pub of_sum : (A n : ℕ) → Sums f table (rule A ∷ []) n → table A ≡ Some n
  of_sum A n (m, k, e, z, q) = let p : m ≡ n = omega (arith, z, q) in e ∙ ap Some p

  pub to_sum : (A n : ℕ) → table A ≡ Some n → Sums f table (rule A ∷ []) n
  to_sum A n e = (n, 0, e, refl, omega arith)

-- a list that costs what the table says
pub lists_of : (G : Grammar) (f : ℕ → ℕ) (table : ℕ → Option ℕ) → HasLists G f table → (a : List Sym) (n : ℕ) → Sums f table a n →
    (w : List ℕ) × DerivesTokens G a w × (cost f w ≡ n)
lists_of G f table lists [] n h = ([], Derives.none, sym h)
lists_of G f table lists (rule A ∷ a) n (m, k, e, s, q) =
    let (u, d, c) = lists A m e in
    let (v, h, i) = lists_of G f table lists a k s in
    (u ++ v, tokens_both G u v d h, omega (arith, cost-append f u v, c, i, q))
lists_of G f table lists (token t ∷ a) n (k, s, q) =
    let (v, h, i) = lists_of G f table lists a k s in
    (t ∷ v, tokens_both G (t ∷ []) v Derives.none h, omega (arith, i, q))

-- Least costs.
module _ (G : Grammar) (f : ℕ → ℕ) (table : ℕ → Option ℕ) (closed : (p A n : ℕ) → IsOf G p A → Sums f table (body_of G p) n → (m : ℕ) × (table A ≡ Some m) × (m ≤ n)) where
  mutual
    pub tree_least : (t : Tree ℕ) → IsTree G as_is t → (n : ℕ) × Sums f table (root G as_is t ∷ []) n × (n ≤ cost f (yield t))
    tree_least (leaf x) h = (f x, (0, refl, omega arith), omega arith)
    tree_least (node p ts) h =
        let (n, s, le) = forest_least ts h.2 in
        let (m, e, lt) = closed p (head_of G p) n (record { in_range = h.0; head = refl }) (subst (λ a. Sums f table a n) h.1 s) in
        (m, to_sum f table (head_of G p) m e, omega (arith, le, lt))

    pub forest_least : (ts : Forest ℕ) → AreTrees G as_is ts → (n : ℕ) × Sums f table (roots G as_is ts) n × (n ≤ cost f (yields ts))
    forest_least none h = (0, refl, omega arith)
    forest_least (before t ts) h =
        let (m, s, le) = tree_least t h.0 in
        let (k, r, lt) = forest_least ts h.1 in
        (m + k, sums_cons f table (root G as_is t) (roots G as_is ts) m k s r, omega (arith, le, lt, cost-append f (yield t) (yields ts)))

  pub at_least : (A : ℕ) (w : List ℕ) → Has G A w → (m : ℕ) × (table A ≡ Some m) × (m ≤ cost f w)
  at_least A w d =
      let (t, i) = derivation_of ℕ G as_is (rule A) w d in
      let (m, s, le) = tree_least t i.is_tree in
      (m, of_sum f table A m (subst (λ x. Sums f table (x ∷ []) m) i.root_is s), subst (λ v. m ≤ cost f v) i.yield_is le)

module _ (G : Grammar) (f : ℕ → ℕ) (table : ℕ → Option ℕ) (h : IsLeastTable G f table) where
  pub is_least : (A n : ℕ) → table A ≡ Some n → IsLeastCost G f A n
  is_least A n e =
      let (w, d, c) = h.lists A n e in
      (w, record { has = d; least = λ v k. let (m, q, le) = at_least G f table h.closed A v k in let s = some_same n m (sym e ∙ q) in omega (arith, c, le, s) }, c)

  pub is_table_cost : (A n : ℕ) → IsLeastCost G f A n → table A ≡ Some n
  is_table_cost A n (w, k, c) =
      let (m, e, le) = at_least G f table h.closed A w k.has in
      let (v, d, i) = h.lists A m e in
      let lt = k.least v d in
      let q : m ≡ n = omega (arith, le, lt, c, i) in
      e ∙ ap Some q

  pub is_productive : (A n : ℕ) → table A ≡ Some n → IsProductive G A
  is_productive A n e = let (w, d, c) = h.lists A n e in (w, d)

  none_without : (A : ℕ) (o : Option ℕ) → table A ≡ o → (IsProductive G A → ⊥) → o ≡ None
  none_without A None e idle = refl
  none_without A (Some n) e idle = absurd (idle (is_productive A n e))

  pub has_none : (A : ℕ) → (table A ≡ None) ↔ (IsProductive G A → ⊥)
  has_none A = ((λ e k. let (m, q, le) = at_least G f table h.closed A k.0 k.1 in contrary m (sym e ∙ q)), none_without A (table A) refl)
    where
      contrary : (m : ℕ) → None ≡ Some m → ⊥
      contrary m e = cc

-- The cheapest lists.
module _ (lists : ℕ → List (List ℕ)) where
  pub concatenates_cons : (x : Sym) (a : List Sym) (u v : List ℕ) → Concatenates lists (x ∷ []) u → Concatenates lists a v → Concatenates lists (x ∷ a) (u ++ v)
  concatenates_cons (rule A) a u v (y, z, c, e, q) k =
      (y, v, c, k, ap (λ l. l ++ v) (q ∙ ap (λ l. y ++ l) e ∙ append-nil y))
  concatenates_cons (token t) a u v (z, e, q) k = (v, k, ap (λ l. l ++ v) (q ∙ ap (λ l. t ∷ l) e))

module _ (G : Grammar) (f : ℕ → ℕ) (table : ℕ → Option ℕ) (lists : ℕ → List (List ℕ)) (h : IsLeastTable G f table) (k : IsCheapestTable G f table lists) where
  mutual
    tree_in : (t : Tree ℕ) → IsTree G as_is t → (n : ℕ) → Sums f table (root G as_is t ∷ []) n → cost f (yield t) ≤ n → Concatenates lists (root G as_is t ∷ []) (yield t)
    tree_in (leaf x) i n s le = ([], refl, refl)
    tree_in (node p ts) i n s le =
        let e = of_sum f table (head_of G p) n s in
        let o : IsOf G p (head_of G p) = record { in_range = i.0; head = refl } in
        let (j, r, lt) = forest_least G f table h.closed ts i.2 in
        let (m, q, lm) = h.closed p (head_of G p) j o (subst (λ a. Sums f table a j) i.1 r) in
        let same = some_same n m (sym e ∙ q) in
        let jn : j ≡ n = omega (arith, le, lt, lm, same) in
        let whole : Concatenates lists (body_of G p) (yields ts) = subst (λ a. Concatenates lists a (yields ts)) i.1 (forest_in ts i.2 j r (omega (arith, le, jn))) in
        let c = k.closed p (head_of G p) n (yields ts) o e (subst (λ a. Sums f table a n) i.1 (subst (Sums f table (roots G as_is ts)) jn r)) whole in
        (yields ts, [], c, refl, sym (append-nil (yields ts)))

    forest_in : (ts : Forest ℕ) → AreTrees G as_is ts → (n : ℕ) → Sums f table (roots G as_is ts) n → cost f (yields ts) ≤ n → Concatenates lists (roots G as_is ts) (yields ts)
    forest_in none i n s le = refl
    forest_in (before t ts) i n s le =
        let parts = sums_split f table (root G as_is t) (roots G as_is ts) n s in
        let (m, r, lm) = tree_least G f table h.closed t i.0 in
        let (j, u, lj) = forest_least G f table h.closed ts i.1 in
        let em = one_sum f table (root G as_is t ∷ []) m parts.one r parts.first in
        let ej = one_sum f table (roots G as_is ts) j parts.others u parts.rest in
        let c = cost-append f (yield t) (yields ts) in
        let t_in = tree_in t i.0 parts.one parts.first (omega (arith, le, lm, lj, em, ej, c, parts.total)) in
        let ts_in = forest_in ts i.1 parts.others parts.rest (omega (arith, le, lm, lj, em, ej, c, parts.total)) in
        concatenates_cons lists (root G as_is t) (roots G as_is ts) (yield t) (yields ts) t_in ts_in

  one_of : (A : ℕ) (w : List ℕ) → Concatenates lists (rule A ∷ []) w → Contains (lists A) w
  one_of A w (u, v, c, e, q) = subst (Contains (lists A)) (sym (q ∙ ap (λ l. u ++ l) e ∙ append-nil u)) c

  pub all_cheapest : (A : ℕ) (w : List ℕ) → IsCheapest G f A w → Contains (lists A) w
  all_cheapest A w d =
      let (t, i) = derivation_of ℕ G as_is (rule A) w d.has in
      let (m, e, le) = at_least G f table h.closed A w d.has in
      let (v, x, c) = h.lists A m e in
      let lt = d.least v x in
      let s : Sums f table (root G as_is t ∷ []) m = subst (λ x. Sums f table (x ∷ []) m) (sym i.root_is) (to_sum f table A m e) in
      let here = tree_in t i.is_tree m s (subst (λ u. cost f u ≤ m) (sym i.yield_is) (omega (arith, lt, c))) in
      one_of A w (subst (λ u. Concatenates lists (rule A ∷ []) u) i.yield_is (subst (λ x. Concatenates lists (x ∷ []) (yield t)) i.root_is here))

-- Greatest costs.
module _ (G : Grammar) where
  pub root_productive : (t : Tree ℕ) → IsTree G as_is t → (a : List Sym) → RulesIn (IsProductive G) a → RulesIn (IsProductive G) (root G as_is t ∷ a)
  root_productive (leaf x) h a r = r
  root_productive (node p ts) h a r = ((yields ts, tree_derives ℕ G as_is (node p ts) h), r)

  pub roots_productive : (ts : Forest ℕ) → AreTrees G as_is ts → RulesIn (IsProductive G) (roots G as_is ts)
  roots_productive none h = tt
  roots_productive (before t ts) h = root_productive t h.0 (roots G as_is ts) (roots_productive ts h.1)

  module _ (f : ℕ → ℕ) (table : ℕ → Option ℕ) (h : IsGreatestTable G f table) where
    mutual
      tree_most : (t : Tree ℕ) → IsTree G as_is t → (n : ℕ) → Sums f table (root G as_is t ∷ []) n → cost f (yield t) ≤ n
      tree_most (leaf x) i n (k, z, q) = omega (arith, z, q)
      tree_most (node p ts) i n s =
          let e = of_sum f table (head_of G p) n s in
          let rules = subst (RulesIn (IsProductive G)) i.1 (roots_productive ts i.2) in
          let (j, r, le) = h.closed p (head_of G p) n e (record { in_range = i.0; head = refl }) rules in
          let lt = forest_most ts i.2 j (subst (λ a. Sums f table a j) (sym i.1) r) in
          omega (arith, le, lt)

      forest_most : (ts : Forest ℕ) → AreTrees G as_is ts → (n : ℕ) → Sums f table (roots G as_is ts) n → cost f (yields ts) ≤ n
      forest_most none i n s = omega arith
      forest_most (before t ts) i n s =
          let parts = sums_split f table (root G as_is t) (roots G as_is ts) n s in
          let le = tree_most t i.0 parts.one parts.first in
          let lt = forest_most ts i.1 parts.others parts.rest in
          omega (arith, le, lt, cost-append f (yield t) (yields ts), parts.total)

    pub is_greatest : (A n : ℕ) → table A ≡ Some n → IsGreatestCost G f A n
    is_greatest A n e = let (w, d, c) = h.lists A n e in record { list = w; has = d; cost_is = c; greatest = most }
      where
        most : (v : List ℕ) → Has G A v → cost f v ≤ n
        most v d =
            let (t, i) = derivation_of ℕ G as_is (rule A) v d in
            subst (λ u. cost f u ≤ n) i.yield_is (tree_most t i.is_tree n (subst (λ x. Sums f table (x ∷ []) n) (sym i.root_is) (to_sum f table A n e)))

-- what tables of costs say is so
pub cost_tables_exact : CostTablesAreExact
cost_tables_exact = record {
  least = λ G f table h A n. (is_least G f table h A n, is_table_cost G f table h A n);
  no_list = λ G f table h A. has_none G f table h A;
  greatest = λ G f table h A n. is_greatest G f table h A n;
  cheapest = λ G f table lists h k A w. (k.cheapest A w, all_cheapest G f table lists h k A w);
}

-- Unbounded rules.
module _ (G : Grammar) (f : ℕ → ℕ) where
  pub surrounded : (A B n : ℕ) (w : List ℕ) → (s : Surrounds G f A B n) → Has G B w → Has G A (s.left ++ (w ++ s.right))
  surrounded A B n w s d =
      let inside : Derives G (map token s.left ++ (rule B ∷ map token s.right)) (map token s.left ++ (map token w ++ map token s.right)) = derives_within G (map token s.left) (map token s.right) d in
      let e : map token s.left ++ (map token w ++ map token s.right) ≡ map token (s.left ++ (w ++ s.right)) = ap (λ l. map token s.left ++ l) (sym (map-append token w s.right)) ∙ sym (map-append token s.left (w ++ s.right)) in
      subst (Derives G (rule A ∷ [])) e (derives_on G s.derives inside)

  pub surrounded_cost : (A B n : ℕ) (w : List ℕ) → (s : Surrounds G f A B n) → cost f (s.left ++ (w ++ s.right)) ≡ n + cost f w
  surrounded_cost A B n w s =
      let x = cost-append f s.left (w ++ s.right) in
      let y = cost-append f w s.right in
      let z = s.costs in
      omega (arith, x, y, z)

  pumped : (A n : ℕ) → 0 < n → Surrounds G f A A n → IsProductive G A → (k : ℕ) → (w : List ℕ) × Has G A w × (k ≤ cost f w)
  pumped A n gains s p zero = (p.0, p.1, omega arith)
  pumped A n gains s p (suc k) =
      let (w, d, le) = pumped A n gains s p k in
      (s.left ++ (w ++ s.right), surrounded A A n w s d, omega (arith, surrounded_cost A A n w s, le, gains))

  cycles : (A n : ℕ) → 0 < n → Surrounds G f A A n → IsProductive G A → IsUnbounded G f A
  cycles A n gains s p k = let (w, d, le) = pumped A n gains s p (suc k) in (w, d, omega (arith, le))

  pub hands_on : (A B n : ℕ) → Surrounds G f A B n → IsUnbounded G f B → IsUnbounded G f A
  hands_on A B n s u k = let (w, d, lt) = u k in (s.left ++ (w ++ s.right), surrounded A B n w s d, omega (arith, surrounded_cost A B n w s, lt))

  pub chained : (A B C m n : ℕ) → Surrounds G f A B m → Surrounds G f B C n → Surrounds G f A C (m + n)
  chained A B C m n s r = record { left = s.left ++ r.left; right = r.right ++ s.right; derives = subst (Derives G (rule A ∷ [])) e (derives_on G s.derives inside); costs = total }
    where
      L : List Sym
      L = map token s.left

      inside : Derives G (map token s.left ++ (rule B ∷ map token s.right)) (map token s.left ++ ((map token r.left ++ (rule C ∷ map token r.right)) ++ map token s.right))
      inside = derives_within G (map token s.left) (map token s.right) r.derives

      e : map token s.left ++ ((map token r.left ++ (rule C ∷ map token r.right)) ++ map token s.right) ≡ map token (s.left ++ r.left) ++ (rule C ∷ map token (r.right ++ s.right))
      e = simp (append_assoc, map-append)

      total : cost f (s.left ++ r.left) + cost f (r.right ++ s.right) ≡ m + n
      total = let x = s.costs in let y = r.costs in omega (arith, cost-append f s.left r.left, cost-append f r.right s.right, x, y)

  pub produced : (p d A B : ℕ) (u v : List ℕ) → IsOf G p A → IsNext G p d (rule B) → DerivesTokens G (take d (body_of G p)) u → DerivesTokens G (drop (suc d) (body_of G p)) v → Surrounds G f A B (cost f u + cost f v)
  produced p d A B u v o n h k =
      let both : Derives G (take d (body_of G p) ++ (rule B ∷ drop (suc d) (body_of G p))) (map token u ++ (rule B ∷ map token v)) = derives_both G h (derives_both G {a = rule B ∷ []} {u = rule B ∷ []} Derives.none k) in
      record { left = u; right = v; derives = derives_rule G o (subst (λ a. Derives G a (map token u ++ (rule B ∷ map token v))) (sym (split_body G p d B n)) both); costs = refl }

pub unbounded_by_cycles : UnboundedByCycles
unbounded_by_cycles = record {
  cycle = λ G f A n. cycles G f A n;
  handed_on = λ G f A B n. hands_on G f A B n;
  by_production = λ G f p d A B u v. produced G f p d A B u v;
  chain = λ G f A B C m n. chained G f A B C m n;
}
