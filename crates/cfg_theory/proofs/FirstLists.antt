-- The first of the cheapest lists of each wanted rule is put together of the first ones of the rules that it needs.
use Rattle.std.proofs.Common.{◌≡◌, ℕ, zero, suc, ◌<◌, ◌≤◌, ◌⊎◌, inl, inr, List, [], ◌∷◌, ◌++◌, drop, Bool, Option, Some, refl, sym, ap, ◌∙◌, subst, append-nil, arith}
use Rattle.std.specs.Prelude.{Contains, IsTrue}
use Rattle.cfg_theory.specs.Grammar.{Sym, rule, token, Grammar, IsOf, InRange, WellFormed, head_of, body_of}
use Rattle.cfg_theory.specs.Productive.{RulesIn}
use Rattle.cfg_theory.specs.Tree.{Tree, leaf, node, Forest, none, before, root, roots, yield, yields, IsTree, AreTrees}
use Rattle.cfg_theory.specs.Cost.{cost, Has, IsCheapest, IsLeastCost, IsBefore}
use Rattle.cfg_theory.specs.CostTables.{Sums, Concatenates}
use Rattle.cfg_theory.specs.CheapestLists.{NoneIsCheaper, IsTight, HaveCosts}
use Rattle.cfg_theory.specs.FirstLists.{HasUpTo, IsClosedUpTo, FirstsOfWantedRules}
use Rattle.cfg_theory.proofs.Lists.{get_from_drop}
use Rattle.cfg_theory.proofs.Trees.{derivation_of}
use Rattle.cfg_theory.proofs.CostTables.{cost-append, as_is, sums_split, one_sum, of_sum, to_sum, tree_least, forest_least, concatenates_cons}

some_same : (m n : ℕ) → Some m ≡ Some n → m ≡ n
some_same m n e = cc

-- ---- the order

abbrev UpTo : List ℕ → List ℕ → Type 0
UpTo v w = (w ≡ v) ⊎ IsBefore v w

-- one after another
before_next : {u v w : List ℕ} → IsBefore u v → IsBefore v w → IsBefore u w
before_next IsBefore.shorter (IsBefore.smaller lt) = IsBefore.shorter
before_next IsBefore.shorter (IsBefore.later k) = IsBefore.shorter
before_next (IsBefore.smaller lt) (IsBefore.smaller le) = IsBefore.smaller (omega arith)
before_next (IsBefore.smaller lt) (IsBefore.later k) = IsBefore.smaller lt
before_next (IsBefore.later h) (IsBefore.smaller lt) = IsBefore.smaller lt
before_next (IsBefore.later h) (IsBefore.later k) = IsBefore.later (before_next h k)

pub before_on : (u v w : List ℕ) → IsBefore u v → IsBefore v w → IsBefore u w
before_on u v w h k = before_next h k

up_to_on : (u v w : List ℕ) → UpTo u v → UpTo v w → UpTo u w
up_to_on u v w h (inl e) = subst (UpTo u) (sym e) h
up_to_on u v w (inl e) (inr k) = inr (subst (λ l. IsBefore l w) e k)
up_to_on u v w (inr h) (inr k) = inr (before_on u v w h k)

behind_same : (u v w : List ℕ) → IsBefore v w → IsBefore (u ++ v) (u ++ w)
behind_same [] v w h = h
behind_same (t ∷ u) v w h = IsBefore.later (behind_same u v w h)

-- ---- lists of the grammar's tokens

module _ (n : ℕ) where
  abbrev Below : List ℕ → Type 0
  Below [] = Unit {0}
  Below (t ∷ w) = (t < n) × Below w

  below_both : (u v : List ℕ) → Below u → Below v → Below (u ++ v)
  below_both [] v h k = k
  below_both (t ∷ u) v h k = (h.0, below_both u v h.1 k)

  below_at : (w : List ℕ) → Below w → (t : ℕ) → Contains w t → t < n
  below_at [] h t (k, lt, e) = absurd (omega (arith, lt))
  below_at (x ∷ w) h t (zero, lt, e) = subst (λ i. i < n) e h.0
  below_at (x ∷ w) h t (suc k, lt, e) = below_at w h.1 t (k, omega (arith, lt), e)

module _ (G : Grammar) (good : WellFormed G) where
  abbrev AllIn : List Sym → Type 0
  AllIn [] = Unit {0}
  AllIn (x ∷ a) = InRange G x × AllIn a

  body_in : (p : ℕ) (a : List Sym) (d : ℕ) → drop d (body_of G p) ≡ a → AllIn a
  body_in p [] d e = tt
  body_in p (x ∷ a) d e = let r = get_from_drop (body_of G p) d x a e in (good.symbols p d x (record { at = r.0 }), body_in p a (suc d) r.1)

  mutual
    tree_below : (t : Tree ℕ) → IsTree G as_is t → InRange G (root G as_is t) → Below G.tokens (yield t)
    tree_below (leaf x) i r = (r, tt)
    tree_below (node p ts) i r = forest_below ts i.2 (subst AllIn (sym i.1) (body_in p (body_of G p) 0 refl))

    forest_below : (ts : Forest ℕ) → AreTrees G as_is ts → AllIn (roots G as_is ts) → Below G.tokens (yields ts)
    forest_below none i r = tt
    forest_below (before t ts) i r = below_both G.tokens (yield t) (yields ts) (tree_below t i.0 r.0) (forest_below ts i.1 r.1)

  list_below : (A : ℕ) (w : List ℕ) → Has G A w → Below G.tokens w
  list_below A w d =
      let (t, i) = derivation_of ℕ G as_is (rule A) w d in
      subst (Below G.tokens) i.yield_is (of_root t i.is_tree i.root_is)
    where
      of_root : (t : Tree ℕ) → IsTree G as_is t → root G as_is t ≡ rule A → Below G.tokens (yield t)
      of_root (leaf x) i e = cc
      of_root (node p ts) i e = forest_below ts i.2 (subst AllIn (sym i.1) (body_in p (body_of G p) 0 refl))

-- of two lists that cost the same none is the beginning of the other, so what stands behind them doesn't matter
before_both : (f : ℕ → ℕ) (n : ℕ) → ((t : ℕ) → t < n → 1 ≤ f t) → (a b u v : List ℕ) → Below n u → cost f u ≤ cost f a → IsBefore a u → IsBefore (a ++ b) (u ++ v)
before_both f n costly a b u v i le (IsBefore.shorter {t} {w}) = absurd (let c = costly t i.0 in omega (arith, c, le))
before_both f n costly a b u v i le (IsBefore.smaller lt) = IsBefore.smaller lt
before_both f n costly (t ∷ a) b (t' ∷ u) v i le (IsBefore.later h) = IsBefore.later (before_both f n costly a b u v i.1 (omega (arith, le)) h)

up_to_both : (f : ℕ → ℕ) (n : ℕ) → ((t : ℕ) → t < n → 1 ≤ f t) → (a b u v : List ℕ) → Below n u → cost f u ≤ cost f a → UpTo a u → UpTo b v → UpTo (a ++ b) (u ++ v)
up_to_both f n costly a b u v i le (inr h) k = inr (before_both f n costly a b u v i le h)
up_to_both f n costly a b u v i le (inl e) (inl q) = inl (ap (λ l. l ++ v) e ∙ ap (λ l. a ++ l) q)
up_to_both f n costly a b u v i le (inl e) (inr k) = inr (subst (λ l. IsBefore (a ++ b) (l ++ v)) (sym e) (behind_same a b v k))

-- ---- derivations

module _ (G : Grammar) (f : ℕ → ℕ) (least : ℕ → Option ℕ) (top : ℕ) (wanted : ℕ → Bool) (lists : ℕ → List (List ℕ)) (good : WellFormed G) (costly : (t : ℕ) → t < G.tokens → 1 ≤ f t)
    (none_cheaper : NoneIsCheaper G f least) (have : HaveCosts G f least lists) (h : IsClosedUpTo G f least top wanted lists) where
  -- what the symbols put together, up to w, and it costs as much as the table says
  abbrev Found : List Sym → ℕ → List ℕ → Type 0
  Found a n w = (v : List ℕ) × Concatenates lists a v × (cost f v ≡ n) × UpTo v w

  head_in : (x : Sym) (a : List Sym) → RulesIn (λ B. IsTrue (wanted B)) (x ∷ a) → RulesIn (λ B. IsTrue (wanted B)) (x ∷ [])
  head_in (rule A) a r = (r.0, tt)
  head_in (token t) a r = tt

  tail_in : (x : Sym) (a : List Sym) → RulesIn (λ B. IsTrue (wanted B)) (x ∷ a) → RulesIn (λ B. IsTrue (wanted B)) a
  tail_in (rule A) a r = r.1
  tail_in (token t) a r = r

  of_rule : (A n : ℕ) (w : List ℕ) → least A ≡ Some n → HasUpTo (lists A) w → Found (rule A ∷ []) n w
  of_rule A n w e (v, c, up) =
      let (m, q, d, k) = have A v c in
      let same = some_same m n (sym q ∙ e) in
      (v, (v, [], c, refl, sym (append-nil v)), omega (arith, k, same), up)

  mutual
    tree_found : (t : Tree ℕ) → IsTree G as_is t → InRange G (root G as_is t) → RulesIn (λ B. IsTrue (wanted B)) (root G as_is t ∷ []) → (n : ℕ) → n < top → Sums f least (root G as_is t ∷ []) n → cost f (yield t) ≤ n →
        Found (root G as_is t ∷ []) n (yield t)
    tree_found (leaf x) i g r n low s le = (x ∷ [], ([], refl, refl), let (k, z, q) = s in omega (arith, z, q), inl refl)
    tree_found (node p ts) i g r n low s le =
        let e = of_sum f least (head_of G p) n s in
        let o : IsOf G p (head_of G p) = record { in_range = i.0; head = refl } in
        let (j, sums, lt) = forest_least G f least none_cheaper ts i.2 in
        let (m, q, lm) = none_cheaper p (head_of G p) j o (subst (λ a. Sums f least a j) i.1 sums) in
        let same = some_same n m (sym e ∙ q) in
        let jn : j ≡ n = omega (arith, le, lt, lm, same) in
        let tight : IsTight G f least p (head_of G p) n = record { is_of = o; has_cost = e; sums = subst (λ a. Sums f least a n) i.1 (subst (Sums f least (roots G as_is ts)) jn sums) } in
        let inner : RulesIn (λ B. IsTrue (wanted B)) (roots G as_is ts) = subst (RulesIn (λ B. IsTrue (wanted B))) (sym i.1) (h.handed_on p (head_of G p) n low r.0 tight) in
        let symbols : AllIn G good (roots G as_is ts) = subst (AllIn G good) (sym i.1) (body_in G good p (body_of G p) 0 refl) in
        let (v, whole, c, up) = forest_found ts i.2 symbols inner j (omega (arith, jn, low)) sums (omega (arith, le, jn)) in
        let (u, there, up') = h.closed p (head_of G p) n v low r.0 tight (subst (λ a. Concatenates lists a v) i.1 whole) in
        of_rule (head_of G p) n (yields ts) e (u, there, up_to_on u v (yields ts) up' up)

    forest_found : (ts : Forest ℕ) → AreTrees G as_is ts → AllIn G good (roots G as_is ts) → RulesIn (λ B. IsTrue (wanted B)) (roots G as_is ts) → (n : ℕ) → n < top → Sums f least (roots G as_is ts) n → cost f (yields ts) ≤ n →
        Found (roots G as_is ts) n (yields ts)
    forest_found none i g r n low s le = ([], refl, sym s, inl refl)
    forest_found (before t ts) i g r n low s le =
        let parts = sums_split f least (root G as_is t) (roots G as_is ts) n s in
        let (m, x, lm) = tree_least G f least none_cheaper t i.0 in
        let (j, u, lj) = forest_least G f least none_cheaper ts i.1 in
        let em = one_sum f least (root G as_is t ∷ []) m parts.one x parts.first in
        let ej = one_sum f least (roots G as_is ts) j parts.others u parts.rest in
        let c = cost-append f (yield t) (yields ts) in
        let one_is : cost f (yield t) ≤ parts.one = omega (arith, le, lm, lj, em, ej, c, parts.total) in
        let (a, ca, ka, ua) = tree_found t i.0 g.0 (head_in (root G as_is t) (roots G as_is ts) r) parts.one (let x = parts.total in omega (arith, x, low)) parts.first one_is in
        let (b, cb, kb, ub) = forest_found ts i.1 g.1 (tail_in (root G as_is t) (roots G as_is ts) r) parts.others (let x = parts.total in omega (arith, x, low)) parts.rest (omega (arith, le, lm, lj, em, ej, c, parts.total)) in (
          a ++ b,
          concatenates_cons lists (root G as_is t) (roots G as_is ts) a b ca cb,
          omega (arith, cost-append f a b, ka, kb, parts.total),
          up_to_both f G.tokens costly a b (yield t) (yields ts) (tree_below G good t i.0 g.0) (omega (arith, one_is, ka)) ua ub,
        )

  one_of : (A n : ℕ) (w : List ℕ) → Found (rule A ∷ []) n w → HasUpTo (lists A) w
  one_of A n w (x, (u, v, c, e, q), k, up) = (u, c, subst (λ l. UpTo l w) (q ∙ ap (λ l. u ++ l) e ∙ append-nil u) up)

  found : (A n : ℕ) (w : List ℕ) → n < top → IsTrue (wanted A) → least A ≡ Some n → IsLeastCost G f A n → IsCheapest G f A w → HasUpTo (lists A) w
  found A n w low want e (v, cheapest, c) d =
      let (t, i) = derivation_of ℕ G as_is (rule A) w d.has in
      let lt = d.least v cheapest.has in
      of_root t i.is_tree i.root_is i.yield_is (subst (λ u. cost f u ≤ n) (sym i.yield_is) (omega (arith, lt, c)))
    where
      of_root : (t : Tree ℕ) → IsTree G as_is t → root G as_is t ≡ rule A → yield t ≡ w → cost f (yield t) ≤ n → HasUpTo (lists A) w
      of_root (leaf x) i r y le = cc
      of_root (node p ts) i r y le =
          let s : Sums f least (root G as_is (node p ts) ∷ []) n = subst (λ x. Sums f least (x ∷ []) n) (sym r) (to_sum f least A n e) in
          let o : IsOf G p (head_of G p) = record { in_range = i.0; head = refl } in
          let wants : RulesIn (λ B. IsTrue (wanted B)) (root G as_is (node p ts) ∷ []) = subst (λ x. RulesIn (λ B. IsTrue (wanted B)) (x ∷ [])) (sym r) (want, tt) in
          let here = tree_found (node p ts) i (good.heads p (head_of G p) o) wants n low s le in
          one_of A n w (subst (Found (rule A ∷ []) n) y (subst (λ x. Found (x ∷ []) n (yields ts)) r here))

pub firsts_of_wanted_rules : FirstsOfWantedRules
firsts_of_wanted_rules = record {
  up_to = λ G f least top wanted lists good costly none_cheaper have h A n w. found G f least top wanted lists good costly none_cheaper have h A n w;
  in_range = λ G good A w d. below_at G.tokens w (list_below G good A w d);
}
