-- How productions fill the table of least costs, and what it says at the end.
use Rattle.std.proofs.Common.{◌≡◌, MatchOption, ℕ, zero, suc, ◌+◌, ◌<◌, ◌≤◌, ◌⊎◌, inl, inr, List, [], ◌∷◌, ◌++◌, length, get_or, set, drop, replicate, map, min, Option, Some, None, refl, sym, ap, ◌∙◌, subst, arith}
use Rattle.std.proofs.lemmas.List.{get_or-set_same, get_or-set_other, length-set, length-replicate, get_or_read}
use Rattle.std.proofs.lemmas.List.Sums.{sum_by-set}
use Rattle.std.proofs.lemmas.Bool.{cases_eq, cases_lt}
use Rattle.cfg_theory.specs.Grammar.{Sym, rule, token, Grammar, IsOf, InRange, WellFormed, head_of, body_of}
use Rattle.cfg_theory.specs.Derivation.{Derives, DerivesTokens, IsProductive}
use Rattle.cfg_theory.specs.Cost.{cost, Has, IsLeastCost}
use Rattle.cfg_theory.specs.CostTables.{Sums, LeastCostsExist}
use Rattle.cfg_theory.proofs.Lists.{get_from_drop}
use Rattle.cfg_theory.proofs.Derivation.{derives_rule, tokens_both}
use Rattle.cfg_theory.proofs.CostTables.{at_least, cost-append, one_sum}
use Rattle.cfg_sentences.specs.CostTable.{bound, cost_of, cost_in, cost_at, HasCost, AllHaveCosts, IsCost, HasNoCost, AreCosts, IsClosedBy, weight, fall, IsLess}
use Rattle.cfg_sets.specs.WorkLists.{TakesIn}
use Rattle.cfg_sentences.proofs.ProdSteps.{IsAt, idle, sums_same, takes_in}
use Rattle.std.proofs.Math.ListN.{get_or-append}
use Rattle.std.proofs.Math.Seq.{get_or-append_seam}
use Rattle.std.proofs.lemmas.List.{length_push}
use Rattle.cfg_base.specs.declared.symbol.TIdx.{TIdx}
use Rattle.cfg_sentences.specs.Sentences.{Costed, CostedTable, AreAnswers}

some_same : (m n : ℕ) → Some m ≡ Some n → m ≡ n
some_same m n e = cc

contrary : (m : ℕ) → None ≡ Some m → ⊥
contrary m e = cc

-- ---- what a closed table says

module _ (G : Grammar) (f : ℕ → ℕ) (table : List (Option ℕ)) (h : AreCosts G f table) (closed : (p : ℕ) → p < length G.productions → IsClosedBy G f p table) where
  by_law : (p A n : ℕ) → IsOf G p A → Sums f (cost_in table) (body_of G p) n → (m : ℕ) × (cost_in table A ≡ Some m) × (m ≤ n)
  by_law p A n o s = let (m, e, le) = closed p o.in_range n s in (m, subst (λ B. cost_in table B ≡ Some m) o.head e, le)

  -- a rule without a cost derives no token list
  pub no_sentence : (A : ℕ) → cost_in table A ≡ None → IsProductive G A → ⊥
  no_sentence A e (w, d) = let (m, q, le) = at_least G f (cost_in table) by_law A w d in contrary m (sym e ∙ q)

  -- a cost below the bound is the least one
  pub is_least : (A n : ℕ) → cost_in table A ≡ Some n → n < bound → IsLeastCost G f A n
  is_least A n e lt =
      let (w, d, c) = h.lists A n e lt in
      (w, record { has = d; least = λ v k. let (m, q, le) = at_least G f (cost_in table) by_law A v k in let s = some_same n m (sym e ∙ q) in omega (arith, c, le, s) }, c)

  -- a cost at the bound stands for one past it: the rule derives some token list, so it has a least cost, and each of its
  -- lists costs as much as the table says
  pub is_large : (A n : ℕ) → WellFormed G → LeastCostsExist → cost_in table A ≡ Some n → bound ≤ n → (k : ℕ) × IsLeastCost G f A k × (65535 < k)
  is_large A n good law e ge =
      let r = law.least G f A good (h.productive A n e) in
      let w = r.1.0 in
      let cheapest = r.1.1 in
      let c = r.1.2 in
      let (m, q, le) = at_least G f (cost_in table) by_law A w cheapest.has in
      let s = some_same n m (sym e ∙ q) in
      (r.0, r.1, omega (arith, c, le, s, ge))

-- ---- sums of a body

module _ (costs : List ℕ) (table : List (Option ℕ)) where
  pub none_costs : IsCost costs table [] 0
  none_costs = (0, refl, refl)

  pub cost_cons : (X : Sym) (a : List Sym) (m k : ℕ) → cost_at costs table X ≡ Some m → IsCost costs table a k → IsCost costs table (X ∷ a) (min (m + k) bound)
  cost_cons (rule A) a m k e (n, s, q) = (m + n, (m, n, e, s, refl), omega (arith, q))
  cost_cons (token t) a m k e (n, s, q) = let r = some_same (cost_of costs t) m e in (cost_of costs t + n, (n, s, refl), omega (arith, q, r))

  pub no_cost_cons : (X : Sym) (a : List Sym) → cost_at costs table X ≡ None → HasNoCost costs table (X ∷ a)
  no_cost_cons (rule A) a e n (m, k, q, s, z) = contrary m (sym e ∙ q)
  no_cost_cons (token t) a e n s = wrong e
    where
      wrong : Some (cost_of costs t) ≡ None → ⊥
      wrong e = cc

  -- where a rest has no cost the list has none
  pub no_cost_of : (a : List Sym) (d : ℕ) → HasNoCost costs table (drop d a) → HasNoCost costs table a
  no_cost_of a zero h = h
  no_cost_of [] (suc d) h = h
  no_cost_of (rule A ∷ a) (suc d) h = λ n s. no_cost_of a d h s.1 s.3
  no_cost_of (token t ∷ a) (suc d) h = λ n s. no_cost_of a d h s.0 s.1

  pub all_at : {X : Type 0} (view : X → Sym) (xs : List X) (i : ℕ) (x d : X) → AllHaveCosts costs table (map view xs) → i < length xs → x ≡ get_or xs i d → HasCost costs table (view x)
  all_at view [] i x d h lt e = absurd (omega (arith, lt))
  all_at view (y ∷ xs) zero x d h lt e = subst (λ z. HasCost costs table (view z)) (sym e) h.0
  all_at view (y ∷ xs) (suc i) x d h lt e = all_at view xs i x d h.1 (omega (arith, lt)) e

pub body_costs : (G : Grammar) (costs : List ℕ) (table : List (Option ℕ)) (p : ℕ) → WellFormed G → length costs ≡ G.tokens → length table ≡ G.rules → AllHaveCosts costs table (body_of G p)
body_costs G costs table p good tokens rules = from (body_of G p) 0 refl
  where
    one : (X : Sym) → InRange G X → HasCost costs table X
    one (rule A) lt = subst (λ n. A < n) (sym rules) lt
    one (token t) lt = subst (λ n. t < n) (sym tokens) lt

    from : (a : List Sym) (d : ℕ) → drop d (body_of G p) ≡ a → AllHaveCosts costs table a
    from [] d e = tt
    from (X ∷ a) d e = let r = get_from_drop (body_of G p) d X a e in (one X (good.symbols p d X (record { at = r.0 })), from a (suc d) r.1)

-- ---- one production

module _ (G : Grammar) (f : ℕ → ℕ) (table : List (Option ℕ)) (h : AreCosts G f table) where
  -- token lists of a body
  lists_of : (a : List Sym) (n : ℕ) → Sums f (cost_in table) a n → n < bound → (w : List ℕ) × DerivesTokens G a w × (cost f w ≡ n)
  lists_of [] n s lt = ([], Derives.none, sym s)
  lists_of (rule A ∷ a) n (m, k, e, s, q) lt =
      let (u, d, c) = h.lists A m e (omega (arith, q, lt)) in
      let (v, i, j) = lists_of a k s (omega (arith, q, lt)) in
      (u ++ v, tokens_both G u v d i, omega (arith, cost-append f u v, c, j, q))
  lists_of (token t ∷ a) n (k, s, q) lt =
      let (v, i, j) = lists_of a k s (omega (arith, q, lt)) in
      (t ∷ v, tokens_both G (t ∷ []) v Derives.none i, omega (arith, j, q))

  some_list : (a : List Sym) (n : ℕ) → Sums f (cost_in table) a n → (w : List ℕ) × DerivesTokens G a w
  some_list [] n s = ([], Derives.none)
  some_list (rule A ∷ a) n (m, k, e, s, q) = let (u, d) = h.productive A m e in let (v, i) = some_list a k s in (u ++ v, tokens_both G u v d i)
  some_list (token t ∷ a) n (k, s, q) = let (v, i) = some_list a k s in (t ∷ v, tokens_both G (t ∷ []) v Derives.none i)

  module _ (p A k : ℕ) (o : IsOf G p A) (n : ℕ) (sums : Sums f (cost_in table) (body_of G p) n) (is : k ≡ min n bound) (in_range : A < G.rules) where
    lt : A < length table
    lt = subst (λ i. A < i) (sym h.count) in_range

    by : (B m : ℕ) → cost_in (set table A (Some k)) B ≡ Some m → ((B ≡ A) × (m ≡ k)) ⊎ (cost_in table B ≡ Some m)
    by B m e = elim (cases_eq B A) [
      | inl q ↦ inl (q, some_same m k (sym e ∙ subst (λ C. cost_in (set table A (Some k)) C ≡ Some k) (sym q) (get_or-set_same table A (Some k) None lt)))
      | inr ne ↦ inr (sym (get_or-set_other table A B (Some k) None ne) ∙ e)
    ]

    pub cheaper : AreCosts G f (set table A (Some k))
    cheaper = record {
      count = length-set table A (Some k) ∙ h.count;
      within = λ B m e. elim (by B m e) [ inl q ↦ (let r = q.1 in omega (arith, r, is)) | inr old ↦ h.within B m old ];
      lists = λ B m e less. elim (by B m e) [ inl q ↦ made B m q.0 q.1 less | inr old ↦ h.lists B m old less ];
      productive = λ B m e. elim (by B m e) [ inl q ↦ derived B q.0 | inr old ↦ h.productive B m old ];
    }
      where
        made : (B m : ℕ) → B ≡ A → m ≡ k → m < bound → (w : List ℕ) × Has G B w × (cost f w ≡ m)
        made B m q r less =
            let (w, d, c) = lists_of (body_of G p) n sums (omega (arith, r, is, less)) in
            (w, subst (λ C. Has G C w) (sym q) (derives_rule G o d), omega (arith, c, r, is, less))

        derived : (B : ℕ) → B ≡ A → IsProductive G B
        derived B q = let (w, d) = some_list (body_of G p) n sums in (w, subst (λ C. Has G C w) (sym q) (derives_rule G o d))

pub lighter : (k : ℕ) (o : Option ℕ) → k ≤ bound → IsLess (Some k) o → weight (Some k) < weight o
lighter k None le less = omega (arith, le)
lighter k (Some n) le less = less

pub falls : (table : List (Option ℕ)) (A k : ℕ) (o : Option ℕ) → A < length table → o ≡ get_or table A None → k ≤ bound → IsLess (Some k) o → fall (set table A (Some k)) < fall table
falls table A k o lt is le less =
    let s = sum_by-set weight table A (Some k) None lt in
    let w = lighter k o le less in
    let e = ap weight is in
    omega (arith, s, w, e)

-- a table of none
pub no_costs : (G : Grammar) (f : ℕ → ℕ) (table : List (Option ℕ)) → table ≡ replicate G.rules None → AreCosts G f table
no_costs G f table e = record {
  count = ap length e ∙ length-replicate G.rules None;
  within = λ A n q. absurd (never A n q);
  lists = λ A n q lt. absurd (never A n q);
  productive = λ A n q. absurd (never A n q);
}
  where
    none_at : (k A : ℕ) → cost_in (replicate k None) A ≡ None
    none_at zero A = refl
    none_at (suc k) zero = refl
    none_at (suc k) (suc A) = none_at k A

    never : (A n : ℕ) → cost_in table A ≡ Some n → ⊥
    never A n q = contrary n (sym (none_at G.rules A) ∙ sym (ap (λ l. cost_in l A) e) ∙ q)

-- a production that gives its rule no less
pub closed_if : (G : Grammar) (f : ℕ → ℕ) (p : ℕ) (table : List (Option ℕ)) (n k : ℕ) (o : Option ℕ) → Sums f (cost_in table) (body_of G p) n → k ≡ min n bound → cost_in table (head_of G p) ≡ o → (IsLess (Some k) o → ⊥) → IsClosedBy G f p table
closed_if G f p table n k None sums is at not i s = absurd (not tt)
closed_if G f p table n k (Some m) sums is at not i s =
    let e = one_sum f (cost_in table) (body_of G p) n i sums s in
    let le : m ≤ k = elim (cases_lt k m) [ inl lt ↦ absurd (not lt) | inr le ↦ le ] in
    (m, at, omega (arith, e, le, is))

-- what a production does
module _ (G : Grammar) (f : ℕ → ℕ) (n : ℕ) (table : List (Option ℕ)) where
  abbrev pub Lowers : List (Option ℕ) → Option ℕ → Type 0
  Lowers new told = TakesIn G fall (λ t p. IsClosedBy G f p t) n table new told

  pub costless : ((m : ℕ) → Sums f (cost_in table) (body_of G n) m → ⊥) → Lowers table None
  costless none = idle G fall (λ t p. IsClosedBy G f p t) n table (λ m s. absurd (none m s))

  pub no_cheaper : (m k : ℕ) (o : Option ℕ) → Sums f (cost_in table) (body_of G n) m → k ≡ min m bound → cost_in table (head_of G n) ≡ o → (IsLess (Some k) o → ⊥) → Lowers table None
  no_cheaper m k o sums is at not = idle G fall (λ t p. IsClosedBy G f p t) n table (closed_if G f n table m k o sums is at not)

  module _ (A k : ℕ) (o : Option ℕ) (lt : A < length table) (at : o ≡ get_or table A None) (less : IsLess (Some k) o) where
    here : cost_in (set table A (Some k)) A ≡ Some k
    here = get_or-set_same table A (Some k) None lt

    other : (B : ℕ) → (B ≡ A → ⊥) → cost_in (set table A (Some k)) B ≡ cost_in table B
    other B ne = get_or-set_other table A B (Some k) None ne

    smaller : (m : ℕ) → o ≡ Some m → k < m
    smaller m e = subst (IsLess (Some k)) e less

    -- no cost rises
    no_more : (B m : ℕ) → cost_in table B ≡ Some m → (j : ℕ) × (cost_in (set table A (Some k)) B ≡ Some j) × (j ≤ m)
    no_more B m e = elim (cases_eq B A) [
      | inl q ↦ (k, subst (λ C. cost_in (set table A (Some k)) C ≡ Some k) (sym q) here, (let r = smaller m (at ∙ subst (λ C. cost_in table C ≡ Some m) q e) in omega (arith, r)))
      | inr ne ↦ (m, other B ne ∙ e, omega arith)
    ]

    still : (p : ℕ) → ((d : ℕ) → IsAt (body_of G p) A d → ⊥) → IsClosedBy G f p table → IsClosedBy G f p (set table A (Some k))
    still p not c i s =
        let (m, e, le) = c i (sums_same f (cost_in (set table A (Some k))) (cost_in table) A other (body_of G p) not i s) in
        let (j, q, l) = no_more (head_of G p) m e in
        (j, q, omega (arith, le, l))

    pub lowers : (m : ℕ) → A ≡ head_of G n → A < G.rules → Sums f (cost_in table) (body_of G n) m → k ≡ min m bound → Lowers (set table A (Some k)) (Some A)
    lowers m head in_range sums is = takes_in G fall (λ t p. IsClosedBy G f p t) n table (set table A (Some k)) A in_range still closed (falls table A k o lt at (omega (arith, is)) less)
      where
        closed : ((d : ℕ) → IsAt (body_of G n) A d → ⊥) → IsClosedBy G f n (set table A (Some k))
        closed not i s =
            let e = one_sum f (cost_in table) (body_of G n) m i sums (sums_same f (cost_in (set table A (Some k))) (cost_in table) A other (body_of G n) not i s) in
            (k, subst (λ C. cost_in (set table A (Some k)) C ≡ Some k) head here, omega (arith, e, is))

-- ---- what a table that is looked up says

module _ (G : Grammar) (costs : List ℕ) (table : List (Option ℕ)) (v : CostedTable) (is : ◌≡◌ {A = CostedTable} (record { grammar = G; costs = costs; table = table }) v) (count : length table ≡ G.rules) (i A : ℕ) (e : i ≡ A) (in_range : A < v.grammar.rules) where
  pub row_below : i < length table
  row_below = let n = ap (λ (w : CostedTable). w.grammar.rules) is in omega (arith, n, count, in_range, e)

  pub row_cost : (x : Option ℕ) → x ≡ get_or table i x → x ≡ cost_in v.table A
  row_cost x at = get_or_read table i x row_below at None ∙ ap (cost_in table) e ∙ ap (λ (w : CostedTable). cost_in w.table A) is

pub body_seen : (G : Grammar) (costs : List ℕ) (table now : List (Option ℕ)) (v : CostedTable) → ◌≡◌ {A = CostedTable} (record { grammar = G; costs = costs; table = table }) v → now ≡ table → (p : ℕ) (o : Option ℕ) →
    MatchOption o (HasNoCost costs now (body_of G p)) (λ k. IsCost costs now (body_of G p) k) → MatchOption o (HasNoCost v.costs v.table (body_of v.grammar p)) (λ k. IsCost v.costs v.table (body_of v.grammar p) k)
body_seen G costs table now v is e p o h =
    subst (λ (w : CostedTable). MatchOption o (HasNoCost w.costs w.table (body_of w.grammar p)) (λ k. IsCost w.costs w.table (body_of w.grammar p) k)) is
    (subst (λ (l : List (Option ℕ)). MatchOption o (HasNoCost costs l (body_of G p)) (λ k. IsCost costs l (body_of G p) k)) e h)

-- ---- what a generator answers

module _ (t : CostedTable) (h : AreCosts t.grammar (cost_of t.costs) t.table) (closed : (p : ℕ) → p < length t.grammar.productions → IsClosedBy t.grammar (cost_of t.costs) p t.table) (v : Costed) (is : ◌≡◌ {A = Costed} (record { grammar = t.grammar; costs = t.costs }) v) (A : ℕ) (x : Option ℕ) (at : x ≡ cost_in t.table A) where
  pub answers_none : x ≡ None → IsProductive v.grammar A → ⊥
  answers_none q = subst (λ (w : Costed). IsProductive w.grammar A → ⊥) is (no_sentence t.grammar (cost_of t.costs) t.table h closed A (sym at ∙ q))

  pub answers_cost : (n : ℕ) → x ≡ Some n → n < bound → IsLeastCost v.grammar (cost_of v.costs) A n
  answers_cost n q less = subst (λ (w : Costed). IsLeastCost w.grammar (cost_of w.costs) A n) is (is_least t.grammar (cost_of t.costs) t.table h closed A n (sym at ∙ q) less)

  pub answers_large : (n : ℕ) → WellFormed t.grammar → LeastCostsExist → x ≡ Some n → bound ≤ n → (k : ℕ) × IsLeastCost v.grammar (cost_of v.costs) A k × (65535 < k)
  answers_large n good law q ge = subst (λ (w : Costed). (k : ℕ) × IsLeastCost w.grammar (cost_of w.costs) A k × (65535 < k)) is (is_large t.grammar (cost_of t.costs) t.table h closed A n good law (sym at ∙ q) ge)

-- ---- answers of a function

pub answers_none_yet : {S : Type 0} (number : S → ℕ) (post : TIdx S → ℕ → Type 0) (costs : List ℕ) → costs ≡ [] → AreAnswers number post 0 costs
answers_none_yet number post costs e = record { count = ap length e; each = λ t low. absurd (omega (arith, low)) }

pub answers_push : {S : Type 0} (number : S → ℕ) (post : TIdx S → ℕ → Type 0) (n : ℕ) (costs : List ℕ) (x : TIdx S) (cost : ℕ) (new : List ℕ) → AreAnswers number post n costs → number x.0 ≡ n → post x cost → new ≡ costs ++ cost ∷ [] → AreAnswers number post (n + 1) new
answers_push {S} number post n costs x cost new h e p is = subst (AreAnswers number post (n + 1)) (sym is) (record { count = counted; each = each })
  where
    counted : length (costs ++ cost ∷ []) ≡ n + 1
    counted = length_push costs cost ∙ ap (λ k. k + 1) h.count

    each : (t : ℕ) → t < n + 1 → (y : TIdx S) × (number y.0 ≡ t) × post y (get_or (costs ++ cost ∷ []) t 0)
    each t low = elim (cases_eq t n) [ inl q ↦ here t q | inr ne ↦ there t (omega (arith, low, ne)) ]
      where
        here : (t : ℕ) → t ≡ n → (y : TIdx S) × (number y.0 ≡ t) × post y (get_or (costs ++ cost ∷ []) t 0)
        here t q =
            let at : get_or (costs ++ cost ∷ []) t 0 ≡ cost = ap (λ k. get_or (costs ++ cost ∷ []) k 0) (q ∙ sym h.count) ∙ get_or-append_seam costs cost [] 0 in
            (x, e ∙ sym q, subst (post x) (sym at) p)

        there : (t : ℕ) → t < n → (y : TIdx S) × (number y.0 ≡ t) × post y (get_or (costs ++ cost ∷ []) t 0)
        there t less =
            let r = h.each t less in
            let same = get_or-append costs (cost ∷ []) 0 t (subst (λ k. t < k) (sym h.count) less) in
            (r.0, r.1, subst (post r.0) (sym same) r.2)
