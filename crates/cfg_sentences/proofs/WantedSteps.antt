-- Which productions give the least cost, and how takings fill the set of the rules that they need.
use Rattle.std.proofs.Common.{◌≡◌, ℕ, suc, ◌+◌, ◌<◌, ◌≤◌, ◌⊎◌, inl, inr, ◌↔◌, ◌==◌, Bool, true, false, List, [], ◌∷◌, ◌++◌, length, set, drop, replicate, min, Option, Some, refl, sym, ap, ◌∙◌, subst, arith}
use Rattle.std.specs.Prelude.{IsTrue}
use Rattle.std.specs.List.{Contains}
use Rattle.std.proofs.lemmas.List.{length-set, length-replicate}
use Rattle.std.proofs.lemmas.List.Elements.{Contains-push_cases}
use Rattle.std.proofs.lemmas.Option.{slice_get_within}
use Rattle.std.proofs.lemmas.Bool.{cases_eq, eqb-true, eq-eqb}
use Rattle.cfg_theory.specs.Grammar.{Sym, rule, token, Grammar, head_of, body_of}
use Rattle.cfg_theory.specs.Productive.{RulesIn}
use Rattle.cfg_theory.specs.CostTables.{Sums}
use Rattle.cfg_theory.proofs.Lists.{get_from_drop}
use Rattle.cfg_theory.proofs.CostTables.{one_sum}
use Rattle.cfg_numbered.specs.Value.{productions_of}
use Rattle.vob.specs.Sets.{is_set}
use Rattle.cfg_sets.specs.WorkLists.{Work, StandsFrom}
use Rattle.cfg_sets.specs.Paths.{HasPlace, Reaches}
use Rattle.cfg_sentences.specs.CostTable.{bound, cost_in}
use Rattle.cfg_sentences.specs.CheapestTable.{GivesLeast, AreNamedIn, IsHandedOn, IsHandedOnOrWaits, AreHandedOnBut, Wants}
use Rattle.vob.proofs.Bits.{none_set, put_in}
use Rattle.cfg_numbered.proofs.RuleLists.{listed}
use Rattle.cfg_sets.proofs.WorkSteps.{from_start}
use Rattle.cfg_sets.proofs.FollowFills.{is_rule}
use Rattle.cfg_sets.proofs.PathSteps.{NamedBelow}
use Rattle.cfg_sets.proofs.PathFills.{reached_on, reached_back}

some_same : (m n : ℕ) → Some m ≡ Some n → m ≡ n
some_same m n e = cc

false_true : ◌≡◌ {A = Bool} false true → ⊥
false_true e = cc

-- ---- what a production gives

module _ (G : Grammar) (f : ℕ → ℕ) (least : List (Option ℕ)) (p : ℕ) where
  pub gives_none : (i : ℕ) → i ≡ head_of G p → ((k : ℕ) → cost_in least i ≡ Some k → ⊥) → IsTrue false ↔ GivesLeast G f least p
  gives_none i e not = ((λ h. absurd (false_true h)), λ h. absurd (let t = h.2 in not h.0 (ap (cost_in least) e ∙ t.has_cost)))

  pub gives_much : (k : ℕ) → cost_in least (head_of G p) ≡ Some k → bound ≤ k → IsTrue false ↔ GivesLeast G f least p
  gives_much k e le = ((λ h. absurd (false_true h)), λ h. absurd (let t = h.2 in let q = some_same k h.0 (sym e ∙ t.has_cost) in let lt = h.1 in omega (arith, q, lt, le)))

  pub gives_unknown : ((n : ℕ) → Sums f (cost_in least) (body_of G p) n → ⊥) → IsTrue false ↔ GivesLeast G f least p
  gives_unknown not = ((λ h. absurd (false_true h)), λ h. absurd (let t = h.2 in not h.0 t.sums))

  pub gives_if : (k s n : ℕ) (answer : Bool) → p < length G.productions → cost_in least (head_of G p) ≡ Some k → k < bound → Sums f (cost_in least) (body_of G p) n → s ≡ min n bound → (IsTrue answer ↔ (s ≡ k)) → IsTrue answer ↔ GivesLeast G f least p
  gives_if k s n answer in_range e lt sums is told = (there, back)
    where
      there : IsTrue answer → GivesLeast G f least p
      there h =
          let q = told.0 h in
          let same : n ≡ k = omega (arith, q, is, lt) in
          (k, lt, record { is_of = record { in_range = in_range; head = refl }; has_cost = e; sums = subst (Sums f (cost_in least) (body_of G p)) same sums })

      back : GivesLeast G f least p → IsTrue answer
      back (m, less, t) =
          let q = some_same k m (sym e ∙ t.has_cost) in
          let r = one_sum f (cost_in least) (body_of G p) n m sums t.sums in
          told.1 (omega (arith, q, r, is, lt))

pub eq_told : (s k : ℕ) → IsTrue (s == k) ↔ (s ≡ k)
eq_told s k = ((λ h. eqb-true s k h), λ e. eq-eqb s k e)

-- ---- the set, and the rules that wait

pub wants_none : (G : Grammar) (f : ℕ → ℕ) (least : List (Option ℕ)) (bits : List Bool) (w : Work) → Wants G f least bits bits w w
wants_none G f least bits w = record { kept = λ B h. h; closed = λ p h. h; rules = refl; room = omega arith }

module _ (G : Grammar) (f : ℕ → ℕ) (least : List (Option ℕ)) (X : Sym) (old new : List Bool) (was is : Work) (place : HasPlace old X) (h : Reaches X old new was is) where
  on : (B : ℕ) → IsTrue (is_set old B) → IsTrue (is_set new B)
  on = reached_on X old new was is place h

  still : (p : ℕ) → (X ≡ rule (head_of G p) → ⊥) → IsHandedOn G f least p old → IsHandedOn G f least p new
  still p ne c wanted gives d R next = on R (c (elim (reached_back X old new was is place h (head_of G p) wanted) [ inl y ↦ y | inr e ↦ absurd (ne e) ]) gives d R next)

  closed_on : (p : ℕ) → IsHandedOnOrWaits G f least old was.list p → IsHandedOnOrWaits G f least new is.list p
  closed_on p (inr w) = inr (h.list (head_of G p) w)
  closed_on p (inl c) = elim h.waits [
    | inl e ↦ inl (subst (IsHandedOn G f least p) (sym e) c)
    | inr all ↦ elim (is_rule X (head_of G p)) [ inl e ↦ inr (all (head_of G p) e) | inr ne ↦ inl (still p ne c) ]
  ]

  pub wants_more : (start : List Bool) (begun : Work) → Wants G f least start old begun was → Wants G f least start new begun is
  wants_more start begun g = record {
    kept = λ B x. on B (g.kept B x);
    closed = λ p x. closed_on p (g.closed p x);
    rules = h.rules ∙ g.rules;
    room = let a = g.room in let b = h.room in omega (arith, a, b);
  }

-- all that is named
pub all_in : (G : Grammar) (p n : ℕ) (bits : List Bool) → length (body_of G p) ≤ n → NamedBelow G p n bits → AreNamedIn G p bits
all_in G p n bits le below d R next = below d R (let lt = slice_get_within (body_of G p) d (rule R) next.at in omega (arith, lt, le)) next

pub not_given : (G : Grammar) (f : ℕ → ℕ) (least : List (Option ℕ)) (p : ℕ) (bits : List Bool) (answer : Bool) → answer ≡ false → (IsTrue answer ↔ GivesLeast G f least p) → IsHandedOn G f least p bits
not_given G f least p bits answer e told wanted h = absurd (false_true (sym e ∙ told.1 h))

-- a rule that was taken off: its productions are in its list
pub wanted_off : (G : Grammar) (f : ℕ → ℕ) (least : List (Option ℕ)) (bits : List Bool) (work : List ℕ) (R p : ℕ) → p < length G.productions → IsHandedOnOrWaits G f least bits (work ++ R ∷ []) p → IsHandedOnOrWaits G f least bits work p ⊎ StandsFrom (productions_of G R) 0 p
wanted_off G f least bits work R p lt (inl c) = inl (inl c)
wanted_off G f least bits work R p lt (inr waits) = elim (Contains-push_cases work R (head_of G p) waits) [
  | inl w ↦ inl (inr w)
  | inr e ↦ inr (from_start (productions_of G R) p (subst (λ B. Contains (productions_of G B) p) (sym e) (listed G p lt)))
]

-- where no rule waits, all is handed on
pub handed_all : (G : Grammar) (f : ℕ → ℕ) (least : List (Option ℕ)) (bits : List Bool) → AreHandedOnBut G f least bits [] → (p : ℕ) → p < length G.productions → IsHandedOn G f least p bits
handed_all G f least bits h p lt = by (h p lt)
  where
    by : IsHandedOnOrWaits G f least bits [] p → IsHandedOn G f least p bits
    by (inl c) = c
    by (inr (k, within, e)) = absurd (omega (arith, within))

-- as a fact on the list of symbols
pub rules_in : (G : Grammar) (p : ℕ) (bits : List Bool) → AreNamedIn G p bits → RulesIn (λ B. IsTrue (is_set bits B)) (body_of G p)
rules_in G p bits h = from (body_of G p) 0 refl
  where
    from : (a : List Sym) (d : ℕ) → drop d (body_of G p) ≡ a → RulesIn (λ B. IsTrue (is_set bits B)) a
    from [] d e = tt
    from (rule A ∷ a) d e = let r = get_from_drop (body_of G p) d (rule A) a e in (h d A (record { at = r.0 }), from a (suc d) r.1)
    from (token t ∷ a) d e = let r = get_from_drop (body_of G p) d (token t) a e in from a (suc d) r.1

-- one rule alone
pub first_wanted : (n A : ℕ) (bits new : List Bool) → A < n → bits ≡ replicate n false → new ≡ set bits A true → (length new ≡ n) × IsTrue (is_set new A)
first_wanted n A bits new lt e is =
    let count : length bits ≡ n = ap length e ∙ length-replicate n false in
    let low : A < length bits = omega (arith, lt, count) in
    (ap length is ∙ length-set bits A true ∙ count, subst (λ l. IsTrue (is_set l A)) (sym is) ((put_in bits A A low).1 (inr refl)))

-- where it waits
pub first_waits : (G : Grammar) (f : ℕ → ℕ) (least : List (Option ℕ)) (n A : ℕ) (bits new : List Bool) (list : List ℕ) → A < n → bits ≡ replicate n false → new ≡ set bits A true → Contains list A → AreHandedOnBut G f least new list
first_waits G f least n A bits new list lt e is waits p in_range = elim (cases_eq (head_of G p) A) [
  | inl q ↦ inr (subst (Contains list) (sym q) waits)
  | inr ne ↦ inl (λ wanted. absurd (other ne (subst (λ l. IsTrue (is_set l (head_of G p))) is wanted)))
]
  where
    low : A < length bits
    low = let count : length bits ≡ n = ap length e ∙ length-replicate n false in omega (arith, lt, count)

    other : (head_of G p ≡ A → ⊥) → IsTrue (is_set (set bits A true) (head_of G p)) → ⊥
    other ne h = elim ((put_in bits A (head_of G p) low).0 h) [ inl x ↦ none_set n (head_of G p) (subst (λ l. IsTrue (is_set l (head_of G p))) e x) | inr q ↦ ne (sym q) ]
