-- Cheapest lists of the rules that one rule needs, and the length of lists whose tokens cost something.
use Rattle.std.proofs.Common.{◌≡◌, ℕ, suc, ◌<◌, ◌≤◌, List, [], ◌∷◌, ◌++◌, length, drop, Bool, Option, Some, refl, sym, ap, ◌∙◌, subst, append-nil, length-append, arith}
use Rattle.std.specs.Prelude.{Contains, IsTrue}
use Rattle.cfg_theory.specs.Grammar.{Sym, rule, token, Grammar, IsOf, InRange, WellFormed, head_of, body_of}
use Rattle.cfg_theory.specs.Derivation.{Derives, DerivesTokens}
use Rattle.cfg_theory.specs.Productive.{RulesIn}
use Rattle.cfg_theory.specs.Tree.{Tree, leaf, node, Forest, none, before, root, roots, yield, yields, IsTree, AreTrees}
use Rattle.cfg_theory.specs.Cost.{cost, Has, IsCheapest, IsLeastCost}
use Rattle.cfg_theory.specs.CostTables.{Sums, Concatenates}
use Rattle.cfg_theory.specs.CheapestLists.{NoneIsCheaper, IsTight, HaveCosts, IsClosedOver, ListsOfWantedRules, ListsAreShort}
use Rattle.cfg_theory.proofs.Lists.{get_from_drop}
use Rattle.cfg_theory.proofs.Derivation.{derives_rule, tokens_both}
use Rattle.cfg_theory.proofs.Trees.{derivation_of}
use Rattle.cfg_theory.proofs.CostTables.{cost-append, as_is, sums_split, one_sum, of_sum, to_sum, tree_least, forest_least, concatenates_cons}

some_same : (m n : ℕ) → Some m ≡ Some n → m ≡ n
some_same m n e = cc

module _ (G : Grammar) (f : ℕ → ℕ) (least : ℕ → Option ℕ) (lists : ℕ → List (List ℕ)) (have : HaveCosts G f least lists) where
  put_together : (a : List Sym) (n : ℕ) (w : List ℕ) → Sums f least a n → Concatenates lists a w → DerivesTokens G a w × (cost f w ≡ n)
  put_together [] n w s e = subst (λ l. DerivesTokens G [] l × (cost f l ≡ n)) (sym e) (Derives.none, sym s)
  put_together (rule A ∷ a) n w (m, k, e, s, q) (u, v, c, r, z) =
      let (i, j, d, x) = have A u c in
      let (h, y) = put_together a k v s r in
      let same = some_same i m (sym j ∙ e) in
      subst (λ l. DerivesTokens G (rule A ∷ a) l × (cost f l ≡ n)) (sym z) (tokens_both G u v d h, omega (arith, cost-append f u v, x, y, q, same))
  put_together (token t ∷ a) n w (k, s, q) (v, r, z) =
      let (h, y) = put_together a k v s r in
      subst (λ l. DerivesTokens G (token t ∷ a) l × (cost f l ≡ n)) (sym z) (tokens_both G (t ∷ []) v Derives.none h, omega (arith, y, q))

  tight_lists : (p A n : ℕ) (w : List ℕ) → IsTight G f least p A n → Concatenates lists (body_of G p) w → Has G A w × (cost f w ≡ n)
  tight_lists p A n w t c = let (d, e) = put_together (body_of G p) n w t.sums c in (derives_rule G t.is_of d, e)

module _ (G : Grammar) (f : ℕ → ℕ) (least : ℕ → Option ℕ) (top : ℕ) (wanted : ℕ → Bool) (lists : ℕ → List (List ℕ)) (none_cheaper : NoneIsCheaper G f least) (h : IsClosedOver G f least top wanted lists) where
  head_in : (x : Sym) (a : List Sym) → RulesIn (λ B. IsTrue (wanted B)) (x ∷ a) → RulesIn (λ B. IsTrue (wanted B)) (x ∷ [])
  head_in (rule A) a r = (r.0, tt)
  head_in (token t) a r = tt

  tail_in : (x : Sym) (a : List Sym) → RulesIn (λ B. IsTrue (wanted B)) (x ∷ a) → RulesIn (λ B. IsTrue (wanted B)) a
  tail_in (rule A) a r = r.1
  tail_in (token t) a r = r

  mutual
    tree_in : (t : Tree ℕ) → IsTree G as_is t → RulesIn (λ B. IsTrue (wanted B)) (root G as_is t ∷ []) → (n : ℕ) → n < top → Sums f least (root G as_is t ∷ []) n → cost f (yield t) ≤ n → Concatenates lists (root G as_is t ∷ []) (yield t)
    tree_in (leaf x) i r n low s le = ([], refl, refl)
    tree_in (node p ts) i r n low s le =
        let e = of_sum f least (head_of G p) n s in
        let o : IsOf G p (head_of G p) = record { in_range = i.0; head = refl } in
        let (j, sums, lt) = forest_least G f least none_cheaper ts i.2 in
        let (m, q, lm) = none_cheaper p (head_of G p) j o (subst (λ a. Sums f least a j) i.1 sums) in
        let same = some_same n m (sym e ∙ q) in
        let jn : j ≡ n = omega (arith, le, lt, lm, same) in
        let tight : IsTight G f least p (head_of G p) n = record { is_of = o; has_cost = e; sums = subst (λ a. Sums f least a n) i.1 (subst (Sums f least (roots G as_is ts)) jn sums) } in
        let inner : RulesIn (λ B. IsTrue (wanted B)) (roots G as_is ts) = subst (RulesIn (λ B. IsTrue (wanted B))) (sym i.1) (h.handed_on p (head_of G p) n low r.0 tight) in
        let whole : Concatenates lists (body_of G p) (yields ts) = subst (λ a. Concatenates lists a (yields ts)) i.1 (forest_in ts i.2 inner j (omega (arith, jn, low)) sums (omega (arith, le, jn))) in
        (yields ts, [], h.closed p (head_of G p) n (yields ts) low r.0 tight whole, refl, sym (append-nil (yields ts)))

    forest_in : (ts : Forest ℕ) → AreTrees G as_is ts → RulesIn (λ B. IsTrue (wanted B)) (roots G as_is ts) → (n : ℕ) → n < top → Sums f least (roots G as_is ts) n → cost f (yields ts) ≤ n → Concatenates lists (roots G as_is ts) (yields ts)
    forest_in none i r n low s le = refl
    forest_in (before t ts) i r n low s le =
        let parts = sums_split f least (root G as_is t) (roots G as_is ts) n s in
        let (m, x, lm) = tree_least G f least none_cheaper t i.0 in
        let (j, u, lj) = forest_least G f least none_cheaper ts i.1 in
        let em = one_sum f least (root G as_is t ∷ []) m parts.one x parts.first in
        let ej = one_sum f least (roots G as_is ts) j parts.others u parts.rest in
        let c = cost-append f (yield t) (yields ts) in
        let t_in = tree_in t i.0 (head_in (root G as_is t) (roots G as_is ts) r) parts.one (let x = parts.total in omega (arith, x, low)) parts.first (omega (arith, le, lm, lj, em, ej, c, parts.total)) in
        let ts_in = forest_in ts i.1 (tail_in (root G as_is t) (roots G as_is ts) r) parts.others (let x = parts.total in omega (arith, x, low)) parts.rest (omega (arith, le, lm, lj, em, ej, c, parts.total)) in
        concatenates_cons lists (root G as_is t) (roots G as_is ts) (yield t) (yields ts) t_in ts_in

  one_of : (A : ℕ) (w : List ℕ) → Concatenates lists (rule A ∷ []) w → Contains (lists A) w
  one_of A w (u, v, c, e, q) = subst (Contains (lists A)) (sym (q ∙ ap (λ l. u ++ l) e ∙ append-nil u)) c

  all_there : (A n : ℕ) (w : List ℕ) → n < top → IsTrue (wanted A) → least A ≡ Some n → IsLeastCost G f A n → IsCheapest G f A w → Contains (lists A) w
  all_there A n w low want e (v, cheapest, c) d =
      let (t, i) = derivation_of ℕ G as_is (rule A) w d.has in
      let lt = d.least v cheapest.has in
      let s : Sums f least (root G as_is t ∷ []) n = subst (λ x. Sums f least (x ∷ []) n) (sym i.root_is) (to_sum f least A n e) in
      let r : RulesIn (λ B. IsTrue (wanted B)) (root G as_is t ∷ []) = subst (λ x. RulesIn (λ B. IsTrue (wanted B)) (x ∷ [])) (sym i.root_is) (want, tt) in
      let here = tree_in t i.is_tree r n low s (subst (λ u. cost f u ≤ n) (sym i.yield_is) (omega (arith, lt, c))) in
      one_of A w (subst (λ u. Concatenates lists (rule A ∷ []) u) i.yield_is (subst (λ x. Concatenates lists (x ∷ []) (yield t)) i.root_is here))

pub lists_of_wanted_rules : ListsOfWantedRules
lists_of_wanted_rules = record {
  parts = λ G f least lists p A n w have t c. tight_lists G f least lists have p A n w t c;
  all = λ G f least top wanted lists none_cheaper h A n w. all_there G f least top wanted lists none_cheaper h A n w;
}

module _ (G : Grammar) (f : ℕ → ℕ) (good : WellFormed G) (costly : (t : ℕ) → t < G.tokens → 1 ≤ f t) where
  abbrev AllIn : List Sym → Type 0
  AllIn [] = Unit {0}
  AllIn (x ∷ a) = InRange G x × AllIn a

  body_in : (p : ℕ) (a : List Sym) (d : ℕ) → drop d (body_of G p) ≡ a → AllIn a
  body_in p [] d e = tt
  body_in p (x ∷ a) d e = let r = get_from_drop (body_of G p) d x a e in (good.symbols p d x (record { at = r.0 }), body_in p a (suc d) r.1)

  mutual
    tree_short : (t : Tree ℕ) → IsTree G as_is t → InRange G (root G as_is t) → length (yield t) ≤ cost f (yield t)
    tree_short (leaf x) i r = let h = costly x r in omega (arith, h)
    tree_short (node p ts) i r = forest_short ts i.2 (subst AllIn (sym i.1) (body_in p (body_of G p) 0 refl))

    forest_short : (ts : Forest ℕ) → AreTrees G as_is ts → AllIn (roots G as_is ts) → length (yields ts) ≤ cost f (yields ts)
    forest_short none i r = omega arith
    forest_short (before t ts) i r =
        let a = tree_short t i.0 r.0 in
        let b = forest_short ts i.1 r.1 in
        omega (arith, a, b, length-append (yield t) (yields ts), cost-append f (yield t) (yields ts))

  short : (A : ℕ) (w : List ℕ) → Has G A w → length w ≤ cost f w
  short A w d =
      let (t, i) = derivation_of ℕ G as_is (rule A) w d in
      subst (λ u. length u ≤ cost f u) i.yield_is (of_root t i.is_tree i.root_is)
    where
      of_root : (t : Tree ℕ) → IsTree G as_is t → root G as_is t ≡ rule A → length (yield t) ≤ cost f (yield t)
      of_root (leaf x) i e = cc
      of_root (node p ts) i e = forest_short ts i.2 (subst AllIn (sym i.1) (body_in p (body_of G p) 0 refl))

pub lists_are_short : ListsAreShort
lists_are_short = record { short = λ G f good costly A w. short G f good costly A w }
