-- How productions raise a table of greatest costs, and what it says at the end.
use Rattle.std.proofs.Common.{◌≡◌, ℕ, zero, suc, ◌<◌, ◌≤◌, ◌⊎◌, inl, inr, Bool, true, false, List, [], ◌∷◌, ◌++◌, length, get_or, set, replicate, min, Option, Some, None, refl, sym, ap, ◌∙◌, subst, arith}
use Rattle.std.proofs.lemmas.List.{get_or-set_same, get_or-set_other, length-set, length-replicate, get_or_read}
use Rattle.std.proofs.lemmas.List.Sums.{sum_by-set}
use Rattle.std.proofs.lemmas.Bool.{cases_eq, cases_lt}
use Rattle.cfg_theory.specs.Grammar.{Sym, rule, token, Grammar, IsOf, WellFormed, head_of, body_of}
use Rattle.cfg_theory.specs.Derivation.{Derives, DerivesTokens, IsProductive}
use Rattle.cfg_theory.specs.Cost.{cost, Has, IsGreatestCost, IsUnbounded}
use Rattle.cfg_theory.specs.CostTables.{Sums}
use Rattle.cfg_theory.specs.Greatest.{IsKeptTable, GreatestCostsExist, KeptTablesAreExact}
use Rattle.cfg_theory.proofs.Derivation.{derives_rule, tokens_both}
use Rattle.cfg_theory.proofs.CostTables.{cost-append, one_sum}
use Rattle.cfg_sentences.specs.CostTable.{bound, cost_of, cost_in}
use Rattle.cfg_sets.specs.WorkLists.{TakesIn}
use Rattle.cfg_sentences.proofs.ProdSteps.{IsAt, idle, sums_same, takes_in}
use Rattle.vob.specs.Sets.{is_set}
use Rattle.cfg_sentences.specs.Sentences.{Costed}
use Rattle.cfg_sentences.specs.Greatest.{AreRaised, IsRaisedBy, IsMore, slack, rise, AreGreatest}

some_same : (m n : ℕ) → Some m ≡ Some n → m ≡ n
some_same m n e = cc

contrary : (m : ℕ) → None ≡ Some m → ⊥
contrary m e = cc

true_false : true ≡ false → ⊥
true_false e = cc

-- ---- one production

module _ (G : Grammar) (f : ℕ → ℕ) (top : ℕ) (table : List (Option ℕ)) (h : AreRaised G f top table) where
  -- token lists of a body
  lists_of : (a : List Sym) (n : ℕ) → Sums f (cost_in table) a n → (w : List ℕ) × DerivesTokens G a w × (n ≤ cost f w) × (n < top → cost f w ≤ n)
  lists_of [] n s = ([], Derives.none, omega (arith, s), λ lt. omega arith)
  lists_of (rule A ∷ a) n (m, k, e, s, q) =
      let (u, d, c, i) = h.lists A m e in
      let (v, x, y, j) = lists_of a k s in
      let z = cost-append f u v in
      (u ++ v, tokens_both G u v d x, omega (arith, z, c, y, q), λ lt. let b = i (omega (arith, q, lt)) in let r = j (omega (arith, q, lt)) in omega (arith, z, b, r, q))
  lists_of (token t ∷ a) n (k, s, q) =
      let (v, x, y, j) = lists_of a k s in
      (t ∷ v, tokens_both G (t ∷ []) v Derives.none x, omega (arith, y, q), λ lt. let r = j (omega (arith, q, lt)) in omega (arith, r, q))

  pub capped : top ≤ bound → (A n : ℕ) → cost_in table A ≡ Some n → n ≤ bound
  capped low A n e = let le = h.within A n e in omega (arith, le, low)

  module _ (p A k : ℕ) (o : IsOf G p A) (n : ℕ) (sums : Sums f (cost_in table) (body_of G p) n) (is : k ≡ min n top) (in_range : A < G.rules) where
    lt : A < length table
    lt = subst (λ i. A < i) (sym h.count) in_range

    by : (B m : ℕ) → cost_in (set table A (Some k)) B ≡ Some m → ((B ≡ A) × (m ≡ k)) ⊎ (cost_in table B ≡ Some m)
    by B m e = elim (cases_eq B A) [
      | inl q ↦ inl (q, some_same m k (sym e ∙ subst (λ C. cost_in (set table A (Some k)) C ≡ Some k) (sym q) (get_or-set_same table A (Some k) None lt)))
      | inr ne ↦ inr (sym (get_or-set_other table A B (Some k) None ne) ∙ e)
    ]

    made : (B m : ℕ) → B ≡ A → m ≡ k → (w : List ℕ) × Has G B w × (m ≤ cost f w) × (m < top → cost f w ≤ m)
    made B m q r =
        let (w, d, c, i) = lists_of (body_of G p) n sums in
        (w, subst (λ C. Has G C w) (sym q) (derives_rule G o d), omega (arith, r, is, c), λ less. let z = i (omega (arith, r, is, less)) in omega (arith, r, is, less, z))

    pub dearer : AreRaised G f top (set table A (Some k))
    dearer = record {
      count = length-set table A (Some k) ∙ h.count;
      within = λ B m e. elim (by B m e) [ inl q ↦ (let r = q.1 in omega (arith, r, is)) | inr old ↦ h.within B m old ];
      lists = λ B m e. elim (by B m e) [ inl q ↦ made B m q.0 q.1 | inr old ↦ h.lists B m old ];
    }

  pub slacker : (A k : ℕ) (o : Option ℕ) → cost_in table A ≡ o → k ≤ top → IsMore k o → slack top (Some k) < slack top o
  slacker A k None e le more = omega (arith, le)
  slacker A k (Some m) e le more = omega (arith, le, more)

  pub rises : (A k : ℕ) (o : Option ℕ) → A < length table → o ≡ get_or table A None → k ≤ top → IsMore k o → rise top (set table A (Some k)) < rise top table
  rises A k o lt is le more =
      let s = sum_by-set (slack top) table A (Some k) None lt in
      let w = slacker A k o (sym is) le more in
      let e = ap (slack top) is in
      omega (arith, s, w, e)

-- a table of none
pub none_raised : (G : Grammar) (f : ℕ → ℕ) (top : ℕ) (table : List (Option ℕ)) → table ≡ replicate G.rules None → AreRaised G f top table
none_raised G f top table e = record {
  count = ap length e ∙ length-replicate G.rules None;
  within = λ A n q. absurd (never A n q);
  lists = λ A n q. absurd (never A n q);
}
  where
    none_at : (k A : ℕ) → cost_in (replicate k None) A ≡ None
    none_at zero A = refl
    none_at (suc k) zero = refl
    none_at (suc k) (suc A) = none_at k A

    never : (A n : ℕ) → cost_in table A ≡ Some n → ⊥
    never A n q = contrary n (sym (none_at G.rules A) ∙ sym (ap (λ l. cost_in l A) e) ∙ q)

-- what a production does
module _ (G : Grammar) (f : ℕ → ℕ) (top : ℕ) (skipped : List Bool) (n : ℕ) (table : List (Option ℕ)) where
  abbrev pub Raises : List (Option ℕ) → Option ℕ → Type 0
  Raises new told = TakesIn G (rise top) (λ t p. IsRaisedBy G f top skipped p t) n table new told

  closed_table : IsRaisedBy G f top skipped n table → Raises table None
  closed_table h = idle G (rise top) (λ t p. IsRaisedBy G f top skipped p t) n table h

  pub skipped_rule : is_set skipped (head_of G n) ≡ true → Raises table None
  skipped_rule e = closed_table (λ q. absurd (true_false (sym e ∙ q)))

  pub costless : ((m : ℕ) → Sums f (cost_in table) (body_of G n) m → ⊥) → Raises table None
  costless none = closed_table (λ q m s. absurd (none m s))

  closed_if : (m k : ℕ) (o : Option ℕ) → Sums f (cost_in table) (body_of G n) m → k ≡ min m top → cost_in table (head_of G n) ≡ o → (IsMore k o → ⊥) → IsRaisedBy G f top skipped n table
  closed_if m k None sums is at not q i s = absurd (not tt)
  closed_if m k (Some j) sums is at not q i s =
      let e = one_sum f (cost_in table) (body_of G n) m i sums s in
      let le : k ≤ j = elim (cases_lt j k) [ inl lt ↦ absurd (not lt) | inr le ↦ le ] in
      (j, at, omega (arith, e, le, is))

  pub no_dearer : (m k : ℕ) (o : Option ℕ) → Sums f (cost_in table) (body_of G n) m → k ≡ min m top → cost_in table (head_of G n) ≡ o → (IsMore k o → ⊥) → Raises table None
  no_dearer m k o sums is at not = closed_table (closed_if m k o sums is at not)

  module _ (A k : ℕ) (o : Option ℕ) (lt : A < length table) (at : o ≡ get_or table A None) (more : IsMore k o) where
    here : cost_in (set table A (Some k)) A ≡ Some k
    here = get_or-set_same table A (Some k) None lt

    other : (B : ℕ) → (B ≡ A → ⊥) → cost_in (set table A (Some k)) B ≡ cost_in table B
    other B ne = get_or-set_other table A B (Some k) None ne

    greater : (m : ℕ) → o ≡ Some m → m < k
    greater m e = subst (IsMore k) e more

    -- no cost falls
    no_less : (B m : ℕ) → cost_in table B ≡ Some m → (j : ℕ) × (cost_in (set table A (Some k)) B ≡ Some j) × (m ≤ j)
    no_less B m e = elim (cases_eq B A) [
      | inl q ↦ (k, subst (λ C. cost_in (set table A (Some k)) C ≡ Some k) (sym q) here, (let r = greater m (at ∙ subst (λ C. cost_in table C ≡ Some m) q e) in omega (arith, r)))
      | inr ne ↦ (m, other B ne ∙ e, omega arith)
    ]

    still : (p : ℕ) → ((d : ℕ) → IsAt (body_of G p) A d → ⊥) → IsRaisedBy G f top skipped p table → IsRaisedBy G f top skipped p (set table A (Some k))
    still p not c free i s =
        let (m, e, le) = c free i (sums_same f (cost_in (set table A (Some k))) (cost_in table) A other (body_of G p) not i s) in
        let (j, q, l) = no_less (head_of G p) m e in
        (j, q, omega (arith, le, l))

    pub raises : AreRaised G f top table → (m : ℕ) → A ≡ head_of G n → A < G.rules → Sums f (cost_in table) (body_of G n) m → k ≡ min m top → Raises (set table A (Some k)) (Some A)
    raises h m head in_range sums is = takes_in G (rise top) (λ t p. IsRaisedBy G f top skipped p t) n table (set table A (Some k)) A in_range still closed (rises G f top table h A k o lt at (omega (arith, is)) more)
      where
        closed : ((d : ℕ) → IsAt (body_of G n) A d → ⊥) → IsRaisedBy G f top skipped n (set table A (Some k))
        closed not free i s =
            let e = one_sum f (cost_in table) (body_of G n) m i sums (sums_same f (cost_in (set table A (Some k))) (cost_in table) A other (body_of G n) not i s) in
            (k, subst (λ C. cost_in (set table A (Some k)) C ≡ Some k) head here, omega (arith, e, is))

pub kept_table : (G : Grammar) (f : ℕ → ℕ) (top : ℕ) (skipped : List Bool) (table : List (Option ℕ)) → AreRaised G f top table → ((p : ℕ) → p < length G.productions → IsRaisedBy G f top skipped p table) → IsKeptTable G f top (is_set skipped) (cost_in table)
kept_table G f top skipped table h closed = record {
  within = h.within;
  lists = h.lists;
  closed = λ p A n o kept s.
      let (m, e, le) = closed p o.in_range (subst (λ B. is_set skipped B ≡ false) (sym o.head) kept) n s in
      (m, subst (λ B. cost_in table B ≡ Some m) o.head e, le);
}

-- ---- what a generator answers

module _ (G : Grammar) (costs : List ℕ) (bits : List Bool) (table : List (Option ℕ)) (h : AreGreatest G (cost_of costs) bits table) (v : Costed) (is : ◌≡◌ {A = Costed} (record { grammar = G; costs = costs }) v) (i A : ℕ) (e : i ≡ A) (b : Bool) (told : b ≡ is_set bits i) where
  pub answers_unbounded : b ≡ true → IsUnbounded v.grammar (cost_of v.costs) A
  answers_unbounded q = subst (λ (w : Costed). IsUnbounded w.grammar (cost_of w.costs) A) is (h.unbounded.unbounded A (ap (is_set bits) (sym e) ∙ sym told ∙ q))

  module _ (in_range : A < v.grammar.rules) (q : b ≡ false) (x : Option ℕ) (at : x ≡ get_or table i x) where
    kept : is_set bits A ≡ false
    kept = ap (is_set bits) (sym e) ∙ sym told ∙ q

    low : i < length table
    low = let n = ap (λ (w : Costed). w.grammar.rules) is in let m = h.count in omega (arith, n, m, in_range, e)

    found : cost_in table A ≡ x
    found = ap (cost_in table) (sym e) ∙ sym (get_or_read table i x low at None)

    pub answers_none : KeptTablesAreExact → x ≡ None → IsProductive v.grammar A → ⊥
    answers_none law z = subst (λ (w : Costed). IsProductive w.grammar A → ⊥) is (λ d. let (n, k) = law.some G (cost_of costs) bound (is_set bits) (cost_in table) h.unbounded h.costs A kept d in contrary n (sym (found ∙ z) ∙ k))

    pub answers_cost : KeptTablesAreExact → (n : ℕ) → x ≡ Some n → n < bound → IsGreatestCost v.grammar (cost_of v.costs) A n
    answers_cost law n z less = subst (λ (w : Costed). IsGreatestCost w.grammar (cost_of w.costs) A n) is (law.exact G (cost_of costs) bound (is_set bits) (cost_in table) h.unbounded h.costs A n kept (found ∙ z) less)

    large : WellFormed G → GreatestCostsExist → (n : ℕ) → x ≡ Some n → bound ≤ n → (k : ℕ) × IsGreatestCost G (cost_of costs) A k × (65535 < k)
    large good law n z ge =
        let (w, d, c, j) = h.costs.lists A n (found ∙ z) in
        let r = law.greatest G (cost_of costs) (is_set bits) good h.unbounded A kept (w, d) in
        let le = r.1.greatest w d in
        (r.0, r.1, omega (arith, le, c, ge))

    pub answers_large : WellFormed G → GreatestCostsExist → (n : ℕ) → x ≡ Some n → bound ≤ n → (k : ℕ) × IsGreatestCost v.grammar (cost_of v.costs) A k × (65535 < k)
    answers_large good law n z ge = subst (λ (w : Costed). (k : ℕ) × IsGreatestCost w.grammar (cost_of w.costs) A k × (65535 < k)) is (large good law n z ge)
