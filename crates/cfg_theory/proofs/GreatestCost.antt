-- A bounded rule that derives a token list has a greatest cost: a table of costs that token lists have, which some
-- production passes, is raised until none does.
use Rattle.std.proofs.Common.{◌≡◌, ℕ, zero, suc, ◌+◌, ◌-◌, ◌<◌, ◌≤◌, ◌⊎◌, inl, inr, Bool, true, false, List, [], ◌∷◌, length, set, get_or, min, Option, Some, None, refl, sym, ap, ◌∙◌, subst, arith, length-set, get_or-set_same, get_or-set_other}
use Rattle.std.specs.Prelude.{sum_by}
use Rattle.std.proofs.Math.Decide.{ℕ_discrete, dec_lt}
use Rattle.std.proofs.lemmas.List.Sums.{sum_by-set}
use Rattle.std.proofs.lemmas.Bool.{cases_Bool}
use Rattle.cfg_theory.specs.Grammar.{rule, Grammar, WellFormed, IsOf, head_of, body_of}
use Rattle.cfg_theory.specs.Derivation.{DerivesTokens, IsProductive}
use Rattle.cfg_theory.specs.Cost.{cost, Has, IsGreatestCost}
use Rattle.cfg_theory.specs.CostTables.{Sums, HasLists}
use Rattle.cfg_theory.specs.Greatest.{AreUnbounded, GreatestCostsExist}
use Rattle.cfg_theory.proofs.Derivation.{derives_rule}
use Rattle.cfg_theory.proofs.CostTables.{one_sum, lists_of}
use Rattle.cfg_theory.proofs.LeastCost.{Table, at, nothing_yet, nothing_length, nothing_at, priced}
use Rattle.cfg_theory.proofs.Kept.{kept_down, rule_most}

same_some : (m n : ℕ) → Some m ≡ Some n → m ≡ n
same_some m n e = cc

module _ (G : Grammar) (f : ℕ → ℕ) (good : WellFormed G) (open_rules : ℕ → Bool) (h : AreUnbounded G f open_rules) where
  -- no list of a kept rule costs more
  unfoldable most : ℕ
  most = h.bounded.0

  abbrev Kept : ℕ → Type 0
  Kept A = open_rules A ≡ false

  within_most : (A : ℕ) (w : List ℕ) → Kept A → Has G A w → cost f w ≤ most
  unfolding most
  within_most A w k d = h.bounded.1 A w k d

  record Fair (T : Table) : Type 0 where
    size : length T ≡ G.rules
    lists : HasLists G f (at T)
    kept : (A n : ℕ) → at T A ≡ Some n → Kept A

  -- the production p doesn't pass its rule's cost
  abbrev Settled : Table → ℕ → Type 0
  Settled T p = Kept (head_of G p) → (n : ℕ) → Sums f (at T) (body_of G p) n → (m : ℕ) × (at T (head_of G p) ≡ Some m) × (n ≤ m)

  -- or it does
  record Raises (T : Table) : Type 0 where
    production : ℕ
    in_range : production < length G.productions
    keeps : Kept (head_of G production)
    to : ℕ
    sums : Sums f (at T) (body_of G production) to
    less : (at T (head_of G production) ≡ None) ⊎ ((m : ℕ) × (at T (head_of G production) ≡ Some m) × (m < to))

  compare : (T : Table) (p n : ℕ) (o : Option ℕ) → p < length G.productions → Kept (head_of G p) → Sums f (at T) (body_of G p) n → at T (head_of G p) ≡ o → Raises T ⊎ Settled T p
  compare T p n None lt k s e = inl (record { production = p; in_range = lt; keeps = k; to = n; sums = s; less = inl e })
  compare T p n (Some m) lt k s e = by (dec_lt m n)
    where
      by : Dec (m < n) → Raises T ⊎ Settled T p
      by (yes less) = inl (record { production = p; in_range = lt; keeps = k; to = n; sums = s; less = inr (m, e, less) })
      by (no more) = inr (λ _ i r. let q = one_sum f (at T) (body_of G p) i n r s in (m, e, omega (arith, q, more)))

  raises_or : (T : Table) (p : ℕ) → p < length G.productions → Raises T ⊎ Settled T p
  raises_or T p lt = elim (cases_Bool (open_rules (head_of G p))) [ inl q ↦ inr (λ k. absurd (wrong q k)) | inr q ↦ by q (priced G f good T (body_of G p)).is ]
    where
      wrong : open_rules (head_of G p) ≡ true → Kept (head_of G p) → ⊥
      wrong q k = differ (sym q ∙ k)
        where
          differ : true ≡ false → ⊥
          differ e = cc

      by : Kept (head_of G p) → ((n : ℕ) × Sums f (at T) (body_of G p) n) ⊎ ((n : ℕ) → Sums f (at T) (body_of G p) n → ⊥) → Raises T ⊎ Settled T p
      by k (inl (n, s)) = compare T p n (at T (head_of G p)) lt k s refl
      by k (inr none) = inr (λ _ n s. absurd (none n s))

  search_below : (T : Table) (k : ℕ) → k ≤ length G.productions → Raises T ⊎ ((p : ℕ) → p < k → Settled T p)
  search_below T zero le = inr (λ p lt. absurd (omega arith))
  search_below T (suc k) le = by (search_below T k (omega arith)) (raises_or T k (omega arith))
    where
      last : (p : ℕ) → p < suc k → ((q : ℕ) → q < k → Settled T q) → Settled T k → Dec (p < k) → Settled T p
      last p lt all one (yes below) = all p below
      last p lt all one (no above) = let e : k ≡ p = omega arith in subst (Settled T) e one

      by : Raises T ⊎ ((p : ℕ) → p < k → Settled T p) → Raises T ⊎ Settled T k → Raises T ⊎ ((p : ℕ) → p < suc k → Settled T p)
      by (inl l) one = inl l
      by (inr all) (inl l) = inl l
      by (inr all) (inr one) = inr (λ p lt. last p lt all one (dec_lt p k))

  -- the table with the greater cost
  unfoldable raised : (T : Table) → Raises T → Table
  raised T l = set T (head_of G l.production) (Some l.to)

  of_production : (T : Table) → (l : Raises T) → IsOf G l.production (head_of G l.production)
  of_production T l = record { in_range = l.in_range; head = refl }

  head_in : (T : Table) → Fair T → (l : Raises T) → head_of G l.production < length T
  head_in T fair l = let i = good.heads l.production (head_of G l.production) (of_production T l) in let s = fair.size in omega (arith, i, s)

  made : (T : Table) → Fair T → (l : Raises T) → (w : List ℕ) × Has G (head_of G l.production) w × (cost f w ≡ l.to)
  made T fair l =
      let (w, d, c) = lists_of G f (at T) fair.lists (body_of G l.production) l.to l.sums in
      (w, derives_rule G (of_production T l) d, c)

  still_fair : (T : Table) → Fair T → (l : Raises T) → Fair (raised T l)
  unfolding raised
  still_fair T fair l = record { size = length-set T A (Some l.to) ∙ fair.size; lists = λ B n e. by B n e (ℕ_discrete B A); kept = λ B n e. on B n e (ℕ_discrete B A) }
    where
      A : ℕ
      A = head_of G l.production

      by : (B n : ℕ) → at (set T A (Some l.to)) B ≡ Some n → Dec (B ≡ A) → (w : List ℕ) × DerivesTokens G (rule B ∷ []) w × (cost f w ≡ n)
      by B n e (yes q) =
          let here : Some l.to ≡ Some n = sym (get_or-set_same T A (Some l.to) None (head_in T fair l)) ∙ ap (at (set T A (Some l.to))) (sym q) ∙ e in
          let (w, d, c) = made T fair l in
          (w, subst (λ C. DerivesTokens G (rule C ∷ []) w) (sym q) d, c ∙ same_some l.to n here)
      by B n e (no other) = fair.lists B n (sym (get_or-set_other T A B (Some l.to) None other) ∙ e)

      on : (B n : ℕ) → at (set T A (Some l.to)) B ≡ Some n → Dec (B ≡ A) → Kept B
      on B n e (yes q) = subst Kept (sym q) l.keeps
      on B n e (no other) = fair.kept B n (sym (get_or-set_other T A B (Some l.to) None other) ∙ e)

  -- how far a cost can still rise
  abbrev slack : Option ℕ → ℕ
  slack None = suc most
  slack (Some n) = most - n

  unfoldable room : Table → ℕ
  room T = sum_by slack T

  less_room : (T : Table) → Fair T → (l : Raises T) → room (raised T l) < room T
  unfolding raised room
  less_room T fair l = by l.less
    where
      A : ℕ
      A = head_of G l.production

      v : sum_by slack (set T A (Some l.to)) + slack (get_or T A None) ≡ sum_by slack T + (most - l.to)
      v = sum_by-set slack T A (Some l.to) None (head_in T fair l)

      low : l.to ≤ most
      low = let (w, d, c) = made T fair l in let le = within_most A w l.keeps d in omega (arith, c, le)

      by : (at T A ≡ None) ⊎ ((m : ℕ) × (at T A ≡ Some m) × (m < l.to)) → sum_by slack (set T A (Some l.to)) < sum_by slack T
      by (inl e) = let q : slack (get_or T A None) ≡ suc most = ap slack e in omega (arith, v, q, low)
      by (inr (m, e, lt)) = let q : slack (get_or T A None) ≡ most - m = ap slack e in omega (arith, v, q, low, lt)

  -- a table that no production raises
  record Stable : Type 0 where
    table : Table
    fair : Fair table
    settled : (p : ℕ) → p < length G.productions → Settled table p

  step_or_stable : (T : Table) → Fair T → Raises T ⊎ ((p : ℕ) → p < length G.productions → Settled T p) → (Raises T → Stable) → Stable
  step_or_stable T fair (inl l) go = go l
  step_or_stable T fair (inr all) go = record { table = T; fair = fair; settled = all }

  settle : (k : ℕ) (T : Table) → room T ≤ k → Fair T → Stable
  settle zero T le fair = step_or_stable T fair (search_below T (length G.productions) (omega arith)) (λ l. absurd (let lt = less_room T fair l in omega (arith, lt, le)))
  settle (suc k) T le fair = step_or_stable T fair (search_below T (length G.productions) (omega arith)) (λ l. settle k (raised T l) (let lt = less_room T fair l in omega (arith, lt, le)) (still_fair T fair l))

  stable : Stable
  stable = settle (room (nothing_yet G.rules)) (nothing_yet G.rules) (omega arith) (record { size = nothing_length G.rules; lists = λ A n e. absurd (nothing_at G.rules A n e); kept = λ A n e. absurd (nothing_at G.rules A n e) })

  -- no cost passes the bound, so a sum that is kept at one more is itself
  stable_closed : (p A n : ℕ) → IsOf G p A → Kept A → Sums f (at stable.table) (body_of G p) n → (m : ℕ) × (at stable.table A ≡ Some m) × (min n (suc most) ≤ m)
  stable_closed p A n o k s =
      let (m, e, le) = stable.settled p o.in_range (subst Kept (sym o.head) k) n s in
      (m, ap (at stable.table) (sym o.head) ∙ e, omega (arith, le))

  pub greatest_cost : (A : ℕ) → Kept A → IsProductive G A → (n : ℕ) × IsGreatestCost G f A n
  greatest_cost A k (w, d) =
      let (m, e, le) = rule_most G f (suc most) Kept (at stable.table) (kept_down G f open_rules h) stable_closed A w k d in
      let (v, x, c) = stable.fair.lists A m e in
      (m, record { list = v; has = x; cost_is = c; greatest = λ u y. all m e u y })
    where
      all : (m : ℕ) → at stable.table A ≡ Some m → (u : List ℕ) → Has G A u → cost f u ≤ m
      all m e u y =
          let (i, q, le) = rule_most G f (suc most) Kept (at stable.table) (kept_down G f open_rules h) stable_closed A u k y in
          let s = same_some m i (sym e ∙ q) in
          let top = within_most A u k y in
          omega (arith, s, le, top)

pub greatest_costs_exist : GreatestCostsExist
greatest_costs_exist = record { greatest = λ G f open_rules good h A. greatest_cost G f good open_rules h A }
