-- How groups of rules leave a set at once: the productions of a rule one by one, and the set without the group.
use Rattle.std.proofs.Common.{◌≡◌, ℕ, zero, suc, ◌+◌, ◌<◌, ◌≤◌, ◌⊎◌, inl, inr, Bool, true, false, ◌&&◌, cond, List, [], ◌∷◌, length, get_or, set, replicate, min, Option, refl, sym, ap, ◌∙◌, subst, arith}
use Rattle.std.specs.Prelude.{IsTrue, filter, ◌==◌, None, slice_get}
use Rattle.std.specs.List.{range_with_len}
use Rattle.std.proofs.lemmas.List.{get_or-set_other, get_or-map, length-map, length-set}
use Rattle.std.proofs.lemmas.List.Sums.{sum_by-set}
use Rattle.std.proofs.lemmas.Bool.{cases_eq, cases_lt, cases_Bool, eq-eqb}
use Rattle.cfg_theory.specs.Grammar.{rule, Grammar, IsOf, IsNext, WellFormed, head_of, body_of}
use Rattle.cfg_theory.specs.Cost.{cost, Has}
use Rattle.cfg_theory.specs.CostTables.{Sums}
use Rattle.cfg_theory.specs.Greatest.{IsBoundedBy, IsKeptTable, IsNarrowed, UnboundedSets}
use Rattle.cfg_theory.proofs.CostTables.{one_sum}
use Rattle.cfg_base.specs.declared.symbol.PIdx.{PIdx}
use Rattle.cfg_numbered.specs.Symbols.{numbers_of}
use Rattle.cfg_numbered.specs.Value.{productions_of}
use Rattle.cfg_sentences.specs.CostTable.{bound, cost_in}
use Rattle.vob.specs.Sets.{is_set}
use Rattle.cfg_sentences.specs.Greatest.{Settles, AreSettled, IsOneOf, TakesOut, PutsBack, Covers, AreOut, IsNarrowedBy, held}
use Rattle.cfg_sentences.proofs.NarrowSteps.{meet, met, and_false}

true_false : true ≡ false → ⊥
true_false e = cc

-- ---- the productions of a rule

abbrev kept_from : (ℕ → Bool) → ℕ → ℕ → List ℕ
kept_from f a n = filter f (range_with_len a n)

within_range : (f : ℕ → Bool) (a n i : ℕ) → i < length (kept_from f a n) → get_or (kept_from f a n) i 0 < a + n
within_range f a zero i lt = absurd (omega (arith, lt))
within_range f a (suc n) i lt = by (f a) i lt (within_range f (a + 1) n)
  where
    by : (b : Bool) (i : ℕ) → i < length (cond b (a ∷ kept_from f (a + 1) n) (kept_from f (a + 1) n)) → ((i : ℕ) → i < length (kept_from f (a + 1) n) → get_or (kept_from f (a + 1) n) i 0 < (a + 1) + n) → get_or (cond b (a ∷ kept_from f (a + 1) n) (kept_from f (a + 1) n)) i 0 < a + suc n
    by true zero lt h = omega arith
    by true (suc i) lt h = let r = h i (omega (arith, lt)) in omega (arith, r)
    by false i lt h = let r = h i lt in omega (arith, r)

found_in : (f : ℕ → Bool) (a n p : ℕ) → a ≤ p → p < a + n → f p ≡ true → (i : ℕ) × (i < length (kept_from f a n)) × (get_or (kept_from f a n) i 0 ≡ p)
found_in f a zero p le lt e = absurd (omega (arith, le, lt))
found_in f a (suc n) p le lt e = elim (cases_eq p a) [ inl q ↦ here (f a) (ap f (sym q) ∙ e) q | inr ne ↦ there (f a) (found_in f (a + 1) n p (omega (arith, le, ne)) (omega (arith, lt)) e) ]
  where
    here : (b : Bool) → b ≡ true → p ≡ a → (i : ℕ) × (i < length (cond b (a ∷ kept_from f (a + 1) n) (kept_from f (a + 1) n))) × (get_or (cond b (a ∷ kept_from f (a + 1) n) (kept_from f (a + 1) n)) i 0 ≡ p)
    here true h q = (0, omega arith, sym q)
    here false h q = absurd (true_false (sym h))

    there : (b : Bool) → ((i : ℕ) × (i < length (kept_from f (a + 1) n)) × (get_or (kept_from f (a + 1) n) i 0 ≡ p)) → (i : ℕ) × (i < length (cond b (a ∷ kept_from f (a + 1) n) (kept_from f (a + 1) n))) × (get_or (cond b (a ∷ kept_from f (a + 1) n) (kept_from f (a + 1) n)) i 0 ≡ p)
    there true (i, low, q) = (suc i, omega (arith, low), q)
    there false (i, low, q) = (i, low, q)

pub listed_below : (G : Grammar) (A i : ℕ) → i < length (productions_of G A) → get_or (productions_of G A) i 0 < length G.productions
listed_below G A i lt = let h = within_range (λ p. head_of G p == A) 0 (length G.productions) i lt in omega (arith, h)

listed : (G : Grammar) (A p : ℕ) → IsOf G p A → (i : ℕ) × (i < length (productions_of G A)) × (get_or (productions_of G A) i 0 ≡ p)
listed G A p o = let lt = o.in_range in found_in (λ q. head_of G q == A) 0 (length G.productions) p (omega arith) (omega (arith, lt)) (eq-eqb (head_of G p) A o.head)

pub number_at : {S : Type 0} (number : S → ℕ) (xs : List (PIdx S)) (ps : List ℕ) (i : ℕ) (x : PIdx S) → numbers_of number xs ≡ ps → i < length xs → x ≡ get_or xs i x → (i < length ps) × (get_or ps i 0 ≡ number x.0)
number_at {S} number xs ps i x e lt is =
    let len = length-map xs (λ (p : PIdx S). number p.0) in
    let all = ap length e in
    (omega (arith, len, all, lt), ap (λ l. get_or l i 0) (sym e) ∙ get_or-map (λ (p : PIdx S). number p.0) xs i x 0 lt ∙ ap (λ (y : PIdx S). number y.0) (sym is))

-- what costs a production's symbols have, and which rules it then doesn't name
pub settles_by : (G : Grammar) (f : ℕ → ℕ) (costs : List (Option ℕ)) (bits rest : List Bool) (p n k : ℕ) → Sums f (cost_in costs) (body_of G p) n → k ≡ min n bound → (2 ≤ k → (d R : ℕ) → IsNext G p d (rule R) → is_set bits R ≡ false) → (k < 2 → (d R : ℕ) → IsNext G p d (rule R) → is_set rest R ≡ false) → Settles G f costs bits rest p
settles_by G f costs bits rest p n k sums is several single m s d R next =
    let e = one_sum f (cost_in costs) (body_of G p) n m sums s in
    ((λ le. several (omega (arith, e, is, le)) d R next), (λ lt. single (omega (arith, e, is, lt)) d R next))

-- the first n of them lead out of the set
abbrev pub OutBelow : Grammar → (ℕ → ℕ) → List (Option ℕ) → List Bool → List Bool → ℕ → ℕ → Type 0
OutBelow G f costs bits rest A n = (i : ℕ) → i < n → Settles G f costs bits rest (get_or (productions_of G A) i 0)

module _ (G : Grammar) (f : ℕ → ℕ) (costs : List (Option ℕ)) (bits rest : List Bool) (A : ℕ) where
  pub out_none : OutBelow G f costs bits rest A 0
  out_none i lt = absurd (omega (arith, lt))

  pub out_more : (n p : ℕ) → get_or (productions_of G A) n 0 ≡ p → Settles G f costs bits rest p → OutBelow G f costs bits rest A n → OutBelow G f costs bits rest A (n + 1)
  out_more n p e here below i lt = elim (cases_eq i n) [ inl q ↦ subst (Settles G f costs bits rest) (sym (ap (λ k. get_or (productions_of G A) k 0) q ∙ e)) here | inr ne ↦ below i (omega (arith, lt, ne)) ]

  pub out_all : (n p : ℕ) → length (productions_of G A) ≤ n → OutBelow G f costs bits rest A n → IsOf G p A → Settles G f costs bits rest p
  out_all n p le below o = let (i, lt, e) = listed G A p o in subst (Settles G f costs bits rest) e (below i (omega (arith, lt, le)))

-- ---- the set without a group

of_longer : (list : List ℕ) (n R : ℕ) → IsOneOf list n R → IsOneOf list (n + 1) R
of_longer list n R (i, low, within, e) = (i, omega (arith, low), within, e)

last_of : (list : List ℕ) (n R : ℕ) → IsOneOf list (n + 1) R → IsOneOf list n R ⊎ (get_or list n 0 ≡ R)
last_of list n R (i, low, within, e) = elim (cases_eq i n) [ inl q ↦ inr (ap (λ k. get_or list k 0) (sym q) ∙ e) | inr ne ↦ inl (i, omega (arith, low, ne), within, e) ]

none_of : {P : Type 0} (list : List ℕ) (R : ℕ) → IsOneOf list 0 R → P
none_of list R (i, low, within, e) = absurd (omega (arith, low))

pub settled_none : (G : Grammar) (f : ℕ → ℕ) (costs : List (Option ℕ)) (bits rest : List Bool) (list : List ℕ) → AreSettled G f costs bits rest list 0
settled_none G f costs bits rest list A p h o = none_of list A h

pub settled_more : (G : Grammar) (f : ℕ → ℕ) (costs : List (Option ℕ)) (bits rest : List Bool) (list : List ℕ) (n B : ℕ) → get_or list n 0 ≡ B → ((p : ℕ) → IsOf G p B → Settles G f costs bits rest p) → AreSettled G f costs bits rest list n → AreSettled G f costs bits rest list (n + 1)
settled_more G f costs bits rest list n B e here before A p h o = elim (last_of list n A h) [ inl l ↦ before A p l o | inr q ↦ here p (record { in_range = o.in_range; head = o.head ∙ sym q ∙ e }) ]

pub settled_all : (G : Grammar) (f : ℕ → ℕ) (costs : List (Option ℕ)) (bits rest : List Bool) (list : List ℕ) (n : ℕ) → length list ≤ n → AreSettled G f costs bits rest list n → AreSettled G f costs bits rest list (length list)
settled_all G f costs bits rest list n le h A p (i, low, within, e) o = h A p (i, omega (arith, within, le), within, e) o

out_of : (xs : List Bool) (A R : ℕ) → A < length xs → is_set xs R ≡ false → is_set (set xs A false) R ≡ false
out_of [] A R lt h = absurd (omega (arith, lt))
out_of (x ∷ xs) zero zero lt h = refl
out_of (x ∷ xs) zero (suc R) lt h = h
out_of (x ∷ xs) (suc A) zero lt h = h
out_of (x ∷ xs) (suc A) (suc R) lt h = out_of xs A R (omega (arith, lt)) h

itself_out : (xs : List Bool) (A : ℕ) → A < length xs → is_set (set xs A false) A ≡ false
itself_out [] A lt = absurd (omega (arith, lt))
itself_out (x ∷ xs) zero lt = refl
itself_out (x ∷ xs) (suc A) lt = itself_out xs A (omega (arith, lt))

pub past_end : (xs : List Bool) (A : ℕ) → length xs ≤ A → is_set xs A ≡ false
past_end [] A le = refl
past_end (x ∷ xs) zero le = absurd (omega (arith, le))
past_end (x ∷ xs) (suc A) le = past_end xs A (omega (arith, le))

pub none_there : (xs : List Bool) (A : ℕ) → slice_get xs A ≡ None → is_set xs A ≡ false
none_there [] A e = refl
none_there (x ∷ xs) zero e = cc
none_there (x ∷ xs) (suc A) e = none_there xs A e

held_less : (xs : List Bool) (A : ℕ) → A < length xs → held (set xs A false) ≤ held xs
held_less xs A lt = let e = sum_by-set (λ b. cond b 1 0) xs A false false lt in omega (arith, e)

pub took_none : (list : List ℕ) (bits : List Bool) → TakesOut list 0 bits bits
took_none list bits = record { width = refl; fewer = λ R h. h; gone = λ R h. none_of list R h; only = λ R h. inl h; less = omega arith }

module _ (list : List ℕ) (n A : ℕ) (old mid : List Bool) (within : n < length list) (e : get_or list n 0 ≡ A) (h : TakesOut list n old mid) where
  -- the next one is past the end of the set
  pub took_past : length mid ≤ A → TakesOut list (n + 1) old mid
  took_past le = record {
    width = h.width;
    fewer = h.fewer;
    gone = λ R o. elim (last_of list n R o) [ inl l ↦ h.gone R l | inr q ↦ subst (λ k. is_set mid k ≡ false) (sym e ∙ q) (past_end mid A le) ];
    only = λ R free. elim (h.only R free) [ inl l ↦ inl l | inr o ↦ inr (of_longer list n R o) ];
    less = h.less;
  }

  pub took_more : (new : List Bool) → new ≡ set mid A false → A < length mid → TakesOut list (n + 1) old new
  took_more new is lt = subst (TakesOut list (n + 1) old) (sym is) (record {
    width = length-set mid A false ∙ h.width;
    fewer = λ R free. out_of mid A R lt (h.fewer R free);
    gone = λ R o. elim (last_of list n R o) [ inl l ↦ out_of mid A R lt (h.gone R l) | inr q ↦ subst (λ k. is_set (set mid A false) k ≡ false) (sym e ∙ q) (itself_out mid A lt) ];
    only = λ R free. elim (cases_eq R A) [
      | inl q ↦ inr (n, omega arith, within, e ∙ sym q)
      | inr ne ↦ elim (h.only R (sym (get_or-set_other mid A R false false ne) ∙ free)) [ inl l ↦ inl l | inr o ↦ inr (of_longer list n R o) ]
    ];
    less = (let a = held_less mid A lt in let b = h.less in omega (arith, a, b));
  })

pub took_by : (list : List ℕ) (n : ℕ) (old mid new : List Bool) → n < length list → (get_or list n 0 < length mid → new ≡ set mid (get_or list n 0) false) → (length mid ≤ get_or list n 0 → new ≡ mid) → TakesOut list n old mid → TakesOut list (n + 1) old new
took_by list n old mid new lt within past h = elim (cases_lt (get_or list n 0) (length mid)) [
  | inl less ↦ took_more list n (get_or list n 0) old mid lt refl h new (within less) less
  | inr le ↦ subst (TakesOut list (n + 1) old) (sym (past le)) (took_past list n (get_or list n 0) old mid lt refl h le)
]

pub back_none : (list : List ℕ) (bits old : List Bool) → PutsBack list 0 bits old old
back_none list bits old = record { width = refl; grows = λ R h. h; back = λ R h. none_of list R h }

pub back_more : (list : List ℕ) (n A : ℕ) (bits old mid new : List Bool) → get_or list n 0 ≡ A → length new ≡ length mid → ((R : ℕ) → is_set new R ≡ false → is_set mid R ≡ false) → (is_set new A ≡ false → is_set bits A ≡ false) → PutsBack list n bits old mid → PutsBack list (n + 1) bits old new
back_more list n A bits old mid new e len grows here h = record {
  width = len ∙ h.width;
  grows = λ R free. h.grows R (grows R free);
  back = λ R o free. elim (last_of list n R o) [ inl l ↦ h.back R l (grows R free) | inr q ↦ subst (λ k. is_set bits k ≡ false) (sym e ∙ q) (here (subst (λ k. is_set new k ≡ false) (sym q ∙ e) free)) ];
}

pub only_one : (xs new : List Bool) (A R : ℕ) → new ≡ set xs A true → A < length xs → is_set new R ≡ false → is_set xs R ≡ false
only_one xs new A R e lt free = at xs A R lt (subst (λ l. is_set l R ≡ false) e free)
  where
    at : (l : List Bool) (k m : ℕ) → k < length l → is_set (set l k true) m ≡ false → is_set l m ≡ false
    at [] k m less h = absurd (omega (arith, less))
    at (x ∷ l) zero zero less h = absurd (true_false h)
    at (x ∷ l) zero (suc m) less h = h
    at (x ∷ l) (suc k) zero less h = h
    at (x ∷ l) (suc k) (suc m) less h = at l k m (omega (arith, less)) h

pub not_there : {P : Type 0} (xs new : List Bool) (A : ℕ) → new ≡ set xs A true → A < length xs → is_set new A ≡ false → P
not_there xs new A e lt free = absurd (at xs A lt (subst (λ l. is_set l A ≡ false) e free))
  where
    at : (l : List Bool) (k : ℕ) → k < length l → is_set (set l k true) k ≡ false → ⊥
    at [] k less h = absurd (omega (arith, less))
    at (x ∷ l) zero less h = true_false h
    at (x ∷ l) (suc k) less h = at l k (omega (arith, less)) h

-- what is put back covers the set again
pub covers_back : (list : List ℕ) (n : ℕ) (bits rest mid new : List Bool) → Covers rest bits → TakesOut list n rest mid → PutsBack list n bits mid new → Covers new bits
covers_back list n bits rest mid new covers took back R free = elim (took.only R (back.grows R free)) [ inl l ↦ covers R l | inr o ↦ back.back R o free ]

-- and so does the rest without the group, where the set loses the group too
pub covers_out : (list : List ℕ) (n : ℕ) (bits to rest mid : List Bool) → Covers rest bits → TakesOut list n rest mid → TakesOut list n bits to → Covers mid to
covers_out list n bits to rest mid covers took out R free = elim (took.only R free) [ inl l ↦ out.fewer R (covers R l) | inr o ↦ out.gone R o ]

-- a group that settles leaves the set
module _ (G : Grammar) (f : ℕ → ℕ) (costs : List (Option ℕ)) (list : List ℕ) (n : ℕ) (xs to rest : List Bool) (covers : Covers rest to) (took : TakesOut list n xs to) (settled : AreSettled G f costs xs rest list n) (are_out : AreOut G f costs xs) where
  -- what a production of a rule outside of the set without the group names
  outside : (p n d R : ℕ) → p < length G.productions → is_set to (head_of G p) ≡ false → Sums f (cost_in costs) (body_of G p) n → IsNext G p d (rule R) → (2 ≤ n → is_set xs R ≡ false) × (n < 2 → is_set to R ≡ false)
  outside p n d R low free s next = elim (took.only (head_of G p) free) [
    | inl e ↦ (let h = are_out p low e n s d R next in ((λ le. h), (λ less. took.fewer R h)))
    | inr o ↦ (let h = settled (head_of G p) p o (record { in_range = low; head = refl }) n s d R next in (h.0, λ less. covers R (h.1 less)))
  ]

  inside : (p n d R B : ℕ) → IsOf G p B → ((is_set to (head_of G p) ≡ false) → ⊥) → IsTrue (is_set to B)
  inside p n d R B o not = elim (cases_Bool (is_set to B)) [ inl h ↦ h | inr h ↦ absurd (not (ap (is_set to) o.head ∙ h)) ]

  narrows : IsNarrowed G f (cost_in costs) (is_set xs) (is_set to)
  narrows = record {
    several = λ p d B R n o s le next h. inside p n d R B o (λ free. true_false (sym h ∙ (outside p n d R o.in_range free s next).0 le));
    single = λ p d B R n o s less next h. inside p n d R B o (λ free. true_false (sym h ∙ (outside p n d R o.in_range free s next).1 less));
  }

  pub settled_bounded : IsKeptTable G f 1 (λ _. false) (cost_in costs) → UnboundedSets → (n : ℕ) × IsBoundedBy G f (is_set xs) n → (n : ℕ) × IsBoundedBy G f (is_set to) n
  settled_bounded table law (n, h) = law.narrowed G f (cost_in costs) (is_set xs) (is_set to) n table h narrows

  pub settled_out : AreOut G f costs to
  settled_out p low free n s d R next =
      let h = outside p n d R low free s next in
      elim (cases_lt n 2) [ inl less ↦ h.1 less | inr le ↦ took.fewer R (h.0 le) ]

-- ---- rounds

all_set : (n A : ℕ) → A < n → is_set (replicate n true) A ≡ true
all_set zero A lt = absurd (omega (arith, lt))
all_set (suc n) zero lt = refl
all_set (suc n) (suc A) lt = all_set n A (omega (arith, lt))

pub all_out : (G : Grammar) (f : ℕ → ℕ) (costs : List (Option ℕ)) → WellFormed G → (bits : List Bool) → bits ≡ replicate G.rules true → AreOut G f costs bits
all_out G f costs good bits e p low free = absurd (true_false (sym (all_set G.rules (head_of G p) (good.heads p (head_of G p) (record { in_range = low; head = refl }))) ∙ ap (λ l. is_set l (head_of G p)) (sym e) ∙ free))

left_false : (a b : Bool) → a ≡ false → a && b ≡ false
left_false true b e = absurd (true_false e)
left_false false b e = refl

right_false : (a b : Bool) → b ≡ false → a && b ≡ false
right_false true b e = e
right_false false b e = refl

pub met_out : (G : Grammar) (f : ℕ → ℕ) (costs : List (Option ℕ)) (old new : List Bool) → length old ≡ length new → ((p : ℕ) → p < length G.productions → IsNarrowedBy G f costs old p new) → AreOut G f costs old → AreOut G f costs (meet old new)
met_out G f costs old new len closed are_out p low free n s d R next = met old new R len ∙ elim (and_false (is_set old (head_of G p)) (is_set new (head_of G p)) (sym (met old new (head_of G p) len) ∙ free)) [
  | inl q ↦ left_false (is_set old R) (is_set new R) (are_out p low q n s d R next)
  | inr q ↦ behind q
]
  where
    behind : is_set new (head_of G p) ≡ false → is_set old R && is_set new R ≡ false
    behind q = elim (cases_lt n 2) [
      | inl less ↦ elim (cases_Bool (is_set new R)) [ inl h ↦ absurd (true_false (sym ((closed p low n s d R next).1 less h) ∙ q)) | inr h ↦ right_false (is_set old R) (is_set new R) h ]
      | inr le ↦ elim (cases_Bool (is_set old R)) [ inl h ↦ absurd (true_false (sym ((closed p low n s d R next).0 le h) ∙ q)) | inr h ↦ left_false (is_set old R) (is_set new R) h ]
    ]
