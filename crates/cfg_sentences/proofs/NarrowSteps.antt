-- How rounds narrow the set of rules down to the unbounded ones.
use Rattle.std.proofs.Common.{◌≡◌, ◌≢◌, ℕ, zero, suc, ◌+◌, ◌<◌, ◌≤◌, ◌⊎◌, inl, inr, ◌↔◌, Bool, true, false, cond, ◌&&◌, List, [], ◌∷◌, length, set, replicate, min, Option, Some, None, slice_get, refl, sym, ap, ◌∙◌, subst, arith}
use Rattle.std.specs.Prelude.{IsTrue, MatchOption}
use Rattle.std.proofs.lemmas.List.{length-set}
use Rattle.std.proofs.lemmas.List.Sums.{sum_by-cons}
use Rattle.std.proofs.lemmas.Option.{slice_get_within}
use Rattle.std.proofs.lemmas.Bool.{cases_eq, cases_lt, cases_Bool}
use Rattle.vob.specs.Bits.{bitwise}
use Rattle.cfg_theory.specs.Grammar.{Sym, rule, token, Grammar, IsOf, IsNext, WellFormed, head_of, body_of}
use Rattle.cfg_theory.specs.Derivation.{IsProductive}
use Rattle.cfg_theory.specs.Cost.{cost, Has}
use Rattle.cfg_theory.specs.CostTables.{Sums}
use Rattle.cfg_theory.specs.Greatest.{IsBoundedBy, AreUnbounded, Gains, IsKeptTable, IsNarrowed, UnboundedSets}
use Rattle.cfg_theory.proofs.Derivation.{derives_rule}
use Rattle.cfg_theory.proofs.CostTables.{chained, one_sum}
use Rattle.cfg_theory.proofs.Kept.{named_costs, lists_from, has_in_range}
use Rattle.cfg_sentences.specs.CostTable.{bound, cost_in}
use Rattle.cfg_sets.specs.WorkLists.{TakesIn}
use Rattle.vob.specs.Sets.{is_set, missing}
use Rattle.cfg_sentences.specs.Greatest.{IsAmong, AreGaining, IsNarrowedBy, held}
use Rattle.vob.proofs.Bits.{none_set, put_in, put_fills, put_again}
use Rattle.cfg_sentences.proofs.ProdSteps.{IsAt, idle, takes_in}

sym_same : (X Y : Sym) → Some X ≡ Some Y → X ≡ Y
sym_same X Y e = cc

true_false : true ≡ false → ⊥
true_false e = cc

-- ---- rules that a production names

-- none of the first n symbols of p is a rule of the set
abbrev pub NoneBelow : Grammar → ℕ → ℕ → List Bool → Type 0
NoneBelow G p n bits = (d R : ℕ) → d < n → IsNext G p d (rule R) → is_set bits R ≡ false

among_not : (bits : List Bool) (R : ℕ) → (IsAmong bits (rule R) → ⊥) → is_set bits R ≡ false
among_not bits R h = elim (cases_Bool (is_set bits R)) [ inl q ↦ absurd (h q) | inr q ↦ q ]

pub none_yet : (G : Grammar) (p : ℕ) (bits : List Bool) → NoneBelow G p 0 bits
none_yet G p bits d R lt next = absurd (omega (arith, lt))

pub none_more : (G : Grammar) (p n : ℕ) (X : Sym) (bits : List Bool) → slice_get (body_of G p) n ≡ Some X → (IsAmong bits X → ⊥) → NoneBelow G p n bits → NoneBelow G p (n + 1) bits
none_more G p n X bits at not below d R lt next = elim (cases_eq d n) [ inl e ↦ here e | inr ne ↦ below d R (omega (arith, lt, ne)) next ]
  where
    here : d ≡ n → is_set bits R ≡ false
    here e = among_not bits R (λ h. not (subst (IsAmong bits) (sym_same (rule R) X (sym next.at ∙ ap (slice_get (body_of G p)) e ∙ at)) h))

pub none_named : (G : Grammar) (p n : ℕ) (bits : List Bool) → length (body_of G p) ≤ n → NoneBelow G p n bits → (d R : ℕ) → IsNext G p d (rule R) → is_set bits R ≡ false
none_named G p n bits le below d R next = below d R (let lt = slice_get_within (body_of G p) d (rule R) next.at in omega (arith, lt, le)) next

pub some_named : (G : Grammar) (p n : ℕ) (X : Sym) (bits : List Bool) → slice_get (body_of G p) n ≡ Some X → IsAmong bits X → (d : ℕ) × (R : ℕ) × IsNext G p d (rule R) × IsTrue (is_set bits R)
some_named G p n (rule R) bits at h = (n, R, record { at = at }, h)
some_named G p n (token t) bits at h = absurd h

-- ---- one production

module _ (G : Grammar) (f : ℕ → ℕ) (costs : List (Option ℕ)) (table : IsKeptTable G f 1 (λ _. false) (cost_in costs)) (old : List Bool) (p A : ℕ) (o : IsOf G p A) (n : ℕ) (sums : Sums f (cost_in costs) (body_of G p) n) where
  lists : (B k : ℕ) → cost_in costs B ≡ Some k → (w : List ℕ) × Has G B w × (k ≤ cost f w)
  lists B k e = let (w, d, c, i) = table.lists B k e in (w, d, c)

  has_list : IsProductive G A
  has_list = let (w, d, c) = lists_from G f (cost_in costs) lists (body_of G p) n sums in (w, derives_rule G o d)

  -- two symbols cost something, and one of them is a rule of the old set
  gains_several : (d B : ℕ) → 2 ≤ n → IsNext G p d (rule B) → IsTrue (is_set old B) → Gains G f (is_set old) A
  gains_several d B le next h =
      let r = named_costs G f (cost_in costs) lists p d A B n o next sums in
      let low = table.within B r.1 r.3 in
      let total = r.4 in
      record { productive = has_list; to = B; cost_is = r.0; within = h; positive = omega (arith, le, low, total); surrounds = r.2 }

  gains_single : (d B : ℕ) → IsNext G p d (rule B) → Gains G f (is_set old) B → Gains G f (is_set old) A
  gains_single d B next g =
      let r = named_costs G f (cost_in costs) lists p d A B n o next sums in
      let pos = g.positive in
      record { productive = has_list; to = g.to; cost_is = r.0 + g.cost_is; within = g.within; positive = omega (arith, pos); surrounds = chained G f A B g.to r.0 g.cost_is r.2 g.surrounds }

  module _ (new : List Bool) (sound : AreGaining G f old new) (k : ℕ) (is : k ≡ min n bound) where
    gains : (2 ≤ k → (d : ℕ) × (R : ℕ) × IsNext G p d (rule R) × IsTrue (is_set old R)) → (k < 2 → (d : ℕ) × (R : ℕ) × IsNext G p d (rule R) × IsTrue (is_set new R)) → Gains G f (is_set old) A
    gains several single = elim (cases_lt k 2) [
      | inl lt ↦ (let r = single lt in gains_single r.0 r.1 r.2 (sound r.1 r.3))
      | inr ge ↦ (let r = several ge in gains_several r.0 r.1 (omega (arith, is, ge)) r.2 r.3)
    ]

    pub still_gaining : A < length new → (2 ≤ k → (d : ℕ) × (R : ℕ) × IsNext G p d (rule R) × IsTrue (is_set old R)) → (k < 2 → (d : ℕ) × (R : ℕ) × IsNext G p d (rule R) × IsTrue (is_set new R)) → AreGaining G f old (set new A true)
    still_gaining lt several single B h = elim ((put_in new A B lt).0 h) [ inl x ↦ sound B x | inr e ↦ subst (Gains G f (is_set old)) e (gains several single) ]

-- what a production does
module _ (G : Grammar) (f : ℕ → ℕ) (costs : List (Option ℕ)) (old : List Bool) (p : ℕ) (new : List Bool) where
  abbrev pub Narrows : List Bool → Option ℕ → Type 0
  Narrows to told = TakesIn G missing (λ b q. IsNarrowedBy G f costs old q b) p new to told

  closed_set : IsNarrowedBy G f costs old p new → Narrows new None
  closed_set closed = idle G missing (λ b q. IsNarrowedBy G f costs old q b) p new closed

  pub costless_step : ((n : ℕ) → Sums f (cost_in costs) (body_of G p) n → ⊥) → Narrows new None
  costless_step none = closed_set (λ n s. absurd (none n s))

  pub unnamed_step : (n k : ℕ) → Sums f (cost_in costs) (body_of G p) n → k ≡ min n bound → (2 ≤ k → (d R : ℕ) → IsNext G p d (rule R) → is_set old R ≡ false) → (k < 2 → (d R : ℕ) → IsNext G p d (rule R) → is_set new R ≡ false) → Narrows new None
  unnamed_step n k sums is several single = closed_set closed
    where
      closed : IsNarrowedBy G f costs old p new
      closed m s d B next =
          let e = one_sum f (cost_in costs) (body_of G p) n m sums s in
          ((λ le h. absurd (true_false (sym h ∙ several (omega (arith, e, is, le)) d B next))), (λ lt h. absurd (true_false (sym h ∙ single (omega (arith, e, is, lt)) d B next))))

  module _ (A : ℕ) (e : head_of G p ≡ A) (lt : A < length new) (in_range : A < G.rules) where
    grows : (B : ℕ) → IsTrue (is_set new B) → IsTrue (is_set (set new A true) B)
    grows B h = (put_in new A B lt).1 (inl h)

    still : (q : ℕ) → ((d : ℕ) → IsAt (body_of G q) A d → ⊥) → IsNarrowedBy G f costs old q new → IsNarrowedBy G f costs old q (set new A true)
    still q not c n s d B next =
        let r = c n s d B next in (
          λ le h. grows (head_of G q) (r.0 le h),
          λ low h. elim ((put_in new A B lt).0 h) [ inl x ↦ grows (head_of G q) (r.1 low x) | inr z ↦ absurd (not d (next.at ∙ ap (λ C. Some (rule C)) (sym z))) ],
        )

    has_head : IsTrue (is_set (set new A true) (head_of G p))
    has_head = (put_in new A (head_of G p) lt).1 (inr (sym e))

    pub put_into : (o : Option ℕ) → MatchOption o (is_set new A ≡ true) (λ B. (B ≡ A) × (is_set new A ≡ false)) → Narrows (set new A true) o
    put_into None there = subst (λ b. Narrows b None) (sym (put_again new A lt there)) (closed_set (λ n s d B next. ((λ le h. at), (λ low h. at))))
      where
        at : IsTrue (is_set new (head_of G p))
        at = ap (is_set new) e ∙ there
    put_into (Some B) told = subst (λ C. Narrows (set new A true) (Some C)) (sym told.0)
        (takes_in G missing (λ b q. IsNarrowedBy G f costs old q b) p new (set new A true) A in_range still (λ not n s d B next. ((λ le h. has_head), (λ low h. has_head))) (put_fills new A lt told.1))

pub into : (G : Grammar) (f : ℕ → ℕ) (costs : List (Option ℕ)) (old : List Bool) (p : ℕ) (new to : List Bool) (A : ℕ) (o : Option ℕ) → to ≡ set new A true → head_of G p ≡ A → A < length new → A < G.rules → MatchOption o (is_set new A ≡ true) (λ B. (B ≡ A) × (is_set new A ≡ false)) → TakesIn G missing (λ b q. IsNarrowedBy G f costs old q b) p new to o
into G f costs old p new to A o made e lt in_range told = subst (λ b. TakesIn G missing (λ c q. IsNarrowedBy G f costs old q c) p new b o) (sym made) (put_into G f costs old p new A e lt in_range o told)

pub with_width : (bits : List Bool) (A : ℕ) → length (set bits A true) ≡ length bits
with_width bits A = length-set bits A true

-- a table by which no rule is skipped
pub none_skipped : (G : Grammar) (f : ℕ → ℕ) (n : ℕ) (bits : List Bool) (costs : List (Option ℕ)) → bits ≡ replicate n false → IsKeptTable G f 1 (is_set bits) (cost_in costs) → IsKeptTable G f 1 (λ _. false) (cost_in costs)
none_skipped G f n bits costs e h = record { within = h.within; lists = h.lists; closed = λ p A m o q s. h.closed p A m o (ap (λ l. is_set l A) e ∙ free n A) s }
  where
    free : (n A : ℕ) → is_set (replicate n false) A ≡ false
    free zero A = refl
    free (suc n) zero = refl
    free (suc n) (suc A) = free n A

pub none_gain : (G : Grammar) (f : ℕ → ℕ) (old : List Bool) (n : ℕ) (bits : List Bool) → bits ≡ replicate n false → AreGaining G f old bits
none_gain G f old n bits e B h = absurd (none_set n B (subst (λ l. IsTrue (is_set l B)) e h))

-- ---- one round

abbrev pub meet : List Bool → List Bool → List Bool
meet xs ys = bitwise (λ x y. x && y) xs ys

pub length_meet : (xs ys : List Bool) → length xs ≡ length ys → length (meet xs ys) ≡ length xs
length_meet [] ys e = refl
length_meet (x ∷ xs) [] e = cc
length_meet (x ∷ xs) (y ∷ ys) e = ap suc (length_meet xs ys (omega (arith, e)))

pub met : (xs ys : List Bool) (t : ℕ) → length xs ≡ length ys → is_set (meet xs ys) t ≡ is_set xs t && is_set ys t
met [] ys t e = refl
met (x ∷ xs) [] t e = cc
met (x ∷ xs) (y ∷ ys) zero e = refl
met (x ∷ xs) (y ∷ ys) (suc t) e = met xs ys t (omega (arith, e))

pub and_false : (a b : Bool) → a && b ≡ false → (a ≡ false) ⊎ (b ≡ false)
and_false false b e = inl refl
and_false true b e = inr e

and_right : (a b : Bool) → a && b ≡ true → b ≡ true
and_right false b e = cc
and_right true b e = e

held_cons : (x : Bool) (xs : List Bool) → held (x ∷ xs) ≡ cond x 1 0 + held xs
held_cons x xs = sum_by-cons (λ b. cond b 1 0) x xs

-- a set that is met with another is as it was, or has fewer rules
pub meet_empties : (xs ys : List Bool) → length xs ≡ length ys → (meet xs ys ≡ xs) ⊎ (held (meet xs ys) < held xs)
meet_empties [] ys e = inl refl
meet_empties (x ∷ xs) [] e = cc
meet_empties (x ∷ xs) (y ∷ ys) e = by x y (meet_empties xs ys (omega (arith, e)))
  where
    by : (x y : Bool) → (meet xs ys ≡ xs) ⊎ (held (meet xs ys) < held xs) → (meet (x ∷ xs) (y ∷ ys) ≡ x ∷ xs) ⊎ (held (meet (x ∷ xs) (y ∷ ys)) < held (x ∷ xs))
    by false y (inl q) = inl (ap (λ l. false ∷ l) q)
    by false y (inr lt) = inr (omega (arith, held_cons false xs, held_cons false (meet xs ys), lt))
    by true true (inl q) = inl (ap (λ l. true ∷ l) q)
    by true true (inr lt) = inr (omega (arith, held_cons true xs, held_cons true (meet xs ys), lt))
    by true false (inl q) = let n = ap held q in inr (omega (arith, held_cons true xs, held_cons false (meet xs ys), n))
    by true false (inr lt) = inr (omega (arith, held_cons true xs, held_cons false (meet xs ys), lt))

pub fewer_held : (xs ys : List Bool) (changed : Bool) {to : List Bool} → length xs ≡ length ys → to ≡ meet xs ys → IsTrue changed ↔ (to ≢ xs) → changed ≡ true → held (meet xs ys) < held xs
fewer_held xs ys changed e made tells q = elim (meet_empties xs ys e) [ inl same ↦ absurd (tells.0 q (made ∙ same)) | inr lt ↦ lt ]

pub unchanged : (xs ys : List Bool) (changed : Bool) {to : List Bool} → length xs ≡ length ys → to ≡ meet xs ys → IsTrue changed ↔ (to ≢ xs) → changed ≡ false → meet xs ys ≡ xs
unchanged xs ys changed {to} e made tells q = elim (meet_empties xs ys e) [ inl same ↦ same | inr lt ↦ absurd (true_false (sym (tells.1 (λ same. less same lt)) ∙ q)) ]
  where
    less : to ≡ xs → held (meet xs ys) < held xs → ⊥
    less same lt = let n = ap held (sym made ∙ same) in omega (arith, n, lt)

module _ (G : Grammar) (f : ℕ → ℕ) where
  -- no rule is outside of the set of all
  pub all_bounded : WellFormed G → (bits : List Bool) → bits ≡ replicate G.rules true → (n : ℕ) × IsBoundedBy G f (is_set bits) n
  all_bounded good bits e = (0, λ A w free d. absurd (wrong A w free d))
    where
      all_set : (n A : ℕ) → A < n → is_set (replicate n true) A ≡ true
      all_set zero A lt = absurd (omega (arith, lt))
      all_set (suc n) zero lt = refl
      all_set (suc n) (suc A) lt = all_set n A (omega (arith, lt))

      wrong : (A : ℕ) (w : List ℕ) → is_set bits A ≡ false → Has G A w → ⊥
      wrong A w free d = true_false (sym (all_set G.rules A (has_in_range G good A w d)) ∙ ap (λ l. is_set l A) (sym e) ∙ free)

  module _ (costs : List (Option ℕ)) (table : IsKeptTable G f 1 (λ _. false) (cost_in costs)) (law : UnboundedSets) (old new : List Bool) (len : length old ≡ length new) where
    narrows : ((p : ℕ) → p < length G.productions → IsNarrowedBy G f costs old p new) → IsNarrowed G f (cost_in costs) (is_set old) (is_set new)
    narrows closed = record {
      several = λ p d A B n o s le next h. subst (λ C. IsTrue (is_set new C)) o.head ((closed p o.in_range n s d B next).0 le h);
      single = λ p d A B n o s lt next h. subst (λ C. IsTrue (is_set new C)) o.head ((closed p o.in_range n s d B next).1 lt h);
    }

    -- the rules that a round leaves out are bounded
    pub met_bounded : ((p : ℕ) → p < length G.productions → IsNarrowedBy G f costs old p new) → (n : ℕ) × IsBoundedBy G f (is_set old) n → (n : ℕ) × IsBoundedBy G f (is_set (meet old new)) n
    met_bounded closed (n, h) =
        let r = law.narrowed G f (cost_in costs) (is_set old) (is_set new) n table h (narrows closed) in (
          n + r.0,
          λ A w free d. elim (and_false (is_set old A) (is_set new A) (sym (met old new A len) ∙ free)) [
            | inl q ↦ (let le = h A w q d in omega (arith, le))
            | inr q ↦ (let le = r.1 A w q d in omega (arith, le))
          ],
        )

    -- where a round leaves none out, the rules are unbounded
    pub all_open : AreGaining G f old new → meet old new ≡ old → (n : ℕ) × IsBoundedBy G f (is_set old) n → AreUnbounded G f (is_set old)
    all_open sound same h = record { unbounded = law.unbounded G f (is_set old) (λ A q. sound A (and_right (is_set old A) (is_set new A) (sym (met old new A len) ∙ ap (λ l. is_set l A) same ∙ q))); bounded = h }
