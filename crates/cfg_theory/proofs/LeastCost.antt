-- A productive rule of a well-formed grammar has a least cost: a table of costs that token lists have, which some
-- production lessens, is bettered until none does.
use Rattle.std.proofs.Common.{◌≡◌, ℕ, zero, suc, ◌+◌, ◌<◌, ◌≤◌, ◌⊎◌, inl, inr, List, [], ◌∷◌, length, set, get_or, Option, Some, None, refl, sym, ap, ◌∙◌, subst, arith, length-set, get_or-set_same, get_or-set_other}
use Rattle.std.specs.Prelude.{sum_by}
use Rattle.std.proofs.Math.Decide.{ℕ_discrete, dec_lt}
use Rattle.std.proofs.lemmas.List.Sums.{sum_by-set}
use Rattle.cfg_theory.specs.Grammar.{Sym, rule, token, Grammar, WellFormed, IsOf, head_of, body_of}
use Rattle.cfg_theory.specs.Derivation.{DerivesTokens, IsProductive}
use Rattle.cfg_theory.specs.Cost.{cost, IsLeastCost}
use Rattle.cfg_theory.specs.CostTables.{Sums, HasLists, LeastCostsExist}
use Rattle.cfg_theory.proofs.Derivation.{derives_rule}
use Rattle.cfg_theory.proofs.CostTables.{one_sum, lists_of, at_least, is_least}

abbrev pub Table : Type 0
Table = List (Option ℕ)

-- the cost of a rule
abbrev pub at : Table → ℕ → Option ℕ
at T A = get_or T A None

abbrev gap : Option ℕ → ℕ
gap None = 1
gap (Some n) = 0

abbrev value : Option ℕ → ℕ
value None = 0
value (Some n) = n

abbrev pub nothing_yet : ℕ → Table
nothing_yet zero = []
nothing_yet (suc n) = None ∷ nothing_yet n

pub nothing_length : (n : ℕ) → length (nothing_yet n) ≡ n
nothing_length zero = refl
nothing_length (suc n) = ap suc (nothing_length n)

pub nothing_at : (n A m : ℕ) → at (nothing_yet n) A ≡ Some m → ⊥
nothing_at zero A m e = cc
nothing_at (suc n) zero m e = cc
nothing_at (suc n) (suc A) m e = nothing_at n A m e

same_some : (m n : ℕ) → Some m ≡ Some n → m ≡ n
same_some m n e = cc

module _ (G : Grammar) (f : ℕ → ℕ) (good : WellFormed G) where
  record Fair (T : Table) : Type 0 where
    size : length T ≡ G.rules
    lists : HasLists G f (at T)

  -- the cost of a list, if the table has one
  pub record Priced (T : Table) (a : List Sym) : Type 0 where
    pub is : ((n : ℕ) × Sums f (at T) a n) ⊎ ((n : ℕ) → Sums f (at T) a n → ⊥)

  priced_rule : (T : Table) (A : ℕ) (a : List Sym) (o : Option ℕ) → at T A ≡ o → Priced T a → Priced T (rule A ∷ a)
  priced_rule T A a None e h = record { is = inr (λ n s. contrary s.0 (sym e ∙ s.2)) }
    where
      contrary : (m : ℕ) → None ≡ Some m → ⊥
      contrary m q = cc
  priced_rule T A a (Some m) e h = by h.is
    where
      by : ((n : ℕ) × Sums f (at T) a n) ⊎ ((n : ℕ) → Sums f (at T) a n → ⊥) → Priced T (rule A ∷ a)
      by (inl (k, s)) = record { is = inl (m + k, (m, k, e, s, refl)) }
      by (inr none) = record { is = inr (λ n s. none s.1 s.3) }

  pub priced : (T : Table) (a : List Sym) → Priced T a
  priced T [] = record { is = inl (0, refl) }
  priced T (rule A ∷ a) = priced_rule T A a (at T A) refl (priced T a)
  priced T (token t ∷ a) = by (priced T a).is
    where
      by : ((n : ℕ) × Sums f (at T) a n) ⊎ ((n : ℕ) → Sums f (at T) a n → ⊥) → Priced T (token t ∷ a)
      by (inl (k, s)) = record { is = inl (f t + k, (k, s, refl)) }
      by (inr none) = record { is = inr (λ n s. none s.0 s.1) }

  -- the production p doesn't lessen its rule's cost
  abbrev Settled : Table → ℕ → Type 0
  Settled T p = (n : ℕ) → Sums f (at T) (body_of G p) n → (m : ℕ) × (at T (head_of G p) ≡ Some m) × (m ≤ n)

  -- or it does
  record Lessens (T : Table) : Type 0 where
    production : ℕ
    in_range : production < length G.productions
    to : ℕ
    sums : Sums f (at T) (body_of G production) to
    dearer : (at T (head_of G production) ≡ None) ⊎ ((m : ℕ) × (at T (head_of G production) ≡ Some m) × (to < m))

  compare : (T : Table) (p n : ℕ) (o : Option ℕ) → p < length G.productions → Sums f (at T) (body_of G p) n → at T (head_of G p) ≡ o → Lessens T ⊎ Settled T p
  compare T p n None lt s e = inl (record { production = p; in_range = lt; to = n; sums = s; dearer = inl e })
  compare T p n (Some m) lt s e = by (dec_lt n m)
    where
      by : Dec (n < m) → Lessens T ⊎ Settled T p
      by (yes less) = inl (record { production = p; in_range = lt; to = n; sums = s; dearer = inr (m, e, less) })
      by (no more) = inr (λ k r. let q = one_sum f (at T) (body_of G p) k n r s in (m, e, omega (arith, q)))

  lessens_or : (T : Table) (p : ℕ) → p < length G.productions → Lessens T ⊎ Settled T p
  lessens_or T p lt = by (priced T (body_of G p)).is
    where
      by : ((n : ℕ) × Sums f (at T) (body_of G p) n) ⊎ ((n : ℕ) → Sums f (at T) (body_of G p) n → ⊥) → Lessens T ⊎ Settled T p
      by (inl (n, s)) = compare T p n (at T (head_of G p)) lt s refl
      by (inr none) = inr (λ n s. absurd (none n s))

  search_below : (T : Table) (k : ℕ) → k ≤ length G.productions → Lessens T ⊎ ((p : ℕ) → p < k → Settled T p)
  search_below T zero le = inr (λ p lt. absurd (omega arith))
  search_below T (suc k) le = by (search_below T k (omega arith)) (lessens_or T k (omega arith))
    where
      last : (p : ℕ) → p < suc k → ((q : ℕ) → q < k → Settled T q) → Settled T k → Dec (p < k) → Settled T p
      last p lt all one (yes below) = all p below
      last p lt all one (no above) = let e : k ≡ p = omega arith in subst (Settled T) e one

      by : Lessens T ⊎ ((p : ℕ) → p < k → Settled T p) → Lessens T ⊎ Settled T k → Lessens T ⊎ ((p : ℕ) → p < suc k → Settled T p)
      by (inl l) one = inl l
      by (inr all) (inl l) = inl l
      by (inr all) (inr one) = inr (λ p lt. last p lt all one (dec_lt p k))

  -- the table with the lesser cost
  unfoldable bettered : (T : Table) → Lessens T → Table
  bettered T l = set T (head_of G l.production) (Some l.to)

  of_production : (T : Table) → (l : Lessens T) → IsOf G l.production (head_of G l.production)
  of_production T l = record { in_range = l.in_range; head = refl }

  head_in : (T : Table) → Fair T → (l : Lessens T) → head_of G l.production < length T
  head_in T fair l = let h = good.heads l.production (head_of G l.production) (of_production T l) in let s = fair.size in omega (arith, h, s)

  still_fair : (T : Table) → Fair T → (l : Lessens T) → Fair (bettered T l)
  unfolding bettered
  still_fair T fair l = record { size = length-set T A (Some l.to) ∙ fair.size; lists = λ B n e. by B n e (ℕ_discrete B A) }
    where
      A : ℕ
      A = head_of G l.production

      by : (B n : ℕ) → at (set T A (Some l.to)) B ≡ Some n → Dec (B ≡ A) → (w : List ℕ) × DerivesTokens G (rule B ∷ []) w × (cost f w ≡ n)
      by B n e (yes q) =
          let here : Some l.to ≡ Some n = sym (get_or-set_same T A (Some l.to) None (head_in T fair l)) ∙ ap (at (set T A (Some l.to))) (sym q) ∙ e in
          let (w, d, c) = lists_of G f (at T) fair.lists (body_of G l.production) l.to l.sums in
          (w, subst (λ C. DerivesTokens G (rule C ∷ []) w) (sym q) (derives_rule G (of_production T l) d), c ∙ same_some l.to n here)
      by B n e (no other) = fair.lists B n (sym (get_or-set_other T A B (Some l.to) None other) ∙ e)

  unfoldable gaps : Table → ℕ
  gaps T = sum_by gap T

  unfoldable total : Table → ℕ
  total T = sum_by value T

  -- a gap is filled, or the sum of the costs is less
  record Nearer (T U : Table) : Type 0 where
    is : (gaps U < gaps T) ⊎ ((gaps U ≤ gaps T) × (total U < total T))

  nearer : (T : Table) → Fair T → (l : Lessens T) → Nearer T (bettered T l)
  unfolding bettered gaps total
  nearer T fair l = by l.dearer
    where
      A : ℕ
      A = head_of G l.production

      g : sum_by gap (set T A (Some l.to)) + gap (get_or T A None) ≡ sum_by gap T + 0
      g = sum_by-set gap T A (Some l.to) None (head_in T fair l)

      v : sum_by value (set T A (Some l.to)) + value (get_or T A None) ≡ sum_by value T + l.to
      v = sum_by-set value T A (Some l.to) None (head_in T fair l)

      by : (at T A ≡ None) ⊎ ((m : ℕ) × (at T A ≡ Some m) × (l.to < m)) → Nearer T (set T A (Some l.to))
      by (inl e) = let q = ap gap e in record { is = inl (omega (arith, g, q)) }
      by (inr (m, e, lt)) = let q = ap gap e in let r = ap value e in record { is = inr (omega (arith, g, q), omega (arith, v, r, lt)) }

  -- a table that no production lessens
  record Stable : Type 0 where
    table : Table
    fair : Fair table
    settled : (p : ℕ) → p < length G.productions → Settled table p

  step_or_stable : (T : Table) → Fair T → Lessens T ⊎ ((p : ℕ) → p < length G.productions → Settled T p) → (Lessens T → Stable) → Stable
  step_or_stable T fair (inl l) go = go l
  step_or_stable T fair (inr all) go = record { table = T; fair = fair; settled = all }

  abbrev IsNearer : (T U : Table) → Type 0
  IsNearer T U = (gaps U < gaps T) ⊎ ((gaps U ≤ gaps T) × (total U < total T))

  -- where tables of fewer gaps, or of as many and a lesser sum, can be settled
  go_on : (k n : ℕ) → ((U : Table) → gaps U < k → Fair U → Stable) → ((U : Table) → gaps U ≤ k → total U < n → Fair U → Stable) →
      (T : Table) → gaps T ≤ k → total T ≤ n → Fair T → (l : Lessens T) → IsNearer T (bettered T l) → Stable
  go_on k n fewer less T le lt fair l (inl filled) = fewer (bettered T l) (omega (arith, le, filled)) (still_fair T fair l)
  go_on k n fewer less T le lt fair l (inr (same, down)) = less (bettered T l) (omega (arith, le, same)) (omega (arith, lt, down)) (still_fair T fair l)

  settle_sum : (k : ℕ) → ((U : Table) → gaps U < k → Fair U → Stable) → (n : ℕ) (T : Table) → gaps T ≤ k → total T ≤ n → Fair T → Stable
  settle_sum k fewer zero T le lt fair =
      step_or_stable T fair (search_below T (length G.productions) (omega arith)) (λ l. go_on k 0 fewer (λ U a b c. absurd (omega (arith, b))) T le lt fair l (nearer T fair l).is)
  settle_sum k fewer (suc n) T le lt fair =
      step_or_stable T fair (search_below T (length G.productions) (omega arith)) (λ l. go_on k (suc n) fewer (λ U a b c. settle_sum k fewer n U a (omega (arith, b)) c) T le lt fair l (nearer T fair l).is)

  settle : (k : ℕ) (T : Table) → gaps T ≤ k → Fair T → Stable
  settle zero T le fair = settle_sum 0 (λ U lt c. absurd (omega (arith, lt))) (total T) T le (omega arith) fair
  settle (suc k) T le fair = settle_sum (suc k) (λ U lt c. settle k U (omega (arith, lt)) c) (total T) T le (omega arith) fair

  stable : Stable
  stable = settle (gaps (nothing_yet G.rules)) (nothing_yet G.rules) (omega arith) (record { size = nothing_length G.rules; lists = λ A n e. absurd (nothing_at G.rules A n e) })

  stable_closed : (p A n : ℕ) → IsOf G p A → Sums f (at stable.table) (body_of G p) n → (m : ℕ) × (at stable.table A ≡ Some m) × (m ≤ n)
  stable_closed p A n o s =
      let (m, e, le) = stable.settled p o.in_range n s in
      (m, ap (at stable.table) (sym o.head) ∙ e, le)

  pub least_cost : (A : ℕ) → IsProductive G A → (n : ℕ) × IsLeastCost G f A n
  least_cost A (w, d) =
      let (m, e, le) = at_least G f (at stable.table) stable_closed A w d in
      (m, is_least G f (at stable.table) (record { lists = stable.fair.lists; closed = stable_closed }) A m e)

pub least_costs_exist : LeastCostsExist
least_costs_exist = record { least = λ G f A good p. least_cost G f good A p }
