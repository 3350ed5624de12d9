-- How passes fill FIRST sets.
use Rattle.std.proofs.Common.{◌≡◌, ℕ, zero, suc, ◌<◌, ◌⊎◌, inl, inr, ◌↔◌, Bool, true, false, ◌||◌, List, [], ◌∷◌, length, get_or, drop, replicate, refl, sym, ap, ◌∙◌, subst, arith}
use Rattle.std.specs.Prelude.{map, IsTrue, if◌then◌else◌}
use Rattle.std.proofs.lemmas.List.{length-replicate}
use Rattle.cfg_theory.specs.Grammar.{Sym, rule, token, Grammar, WellFormed, InRange, body_of}
use Rattle.cfg_theory.specs.First.{IsFirstTable, FirstTablesAreExact}
use Rattle.cfg_theory.proofs.Derivation.{derives_rule, nullable_of, first_of_list}
use Rattle.vob.specs.Sets.{is_set, is_set_in, missing, missing_in, AreRows}
use Rattle.cfg_sets.specs.Firsts.{FirstSets, HasEpsilon, HasFirst, AreOf, AreFirsts, AreSound, IsClosedAt, IsWithin, AllWithin, FirstBefore, first_room}
use Rattle.vob.specs.Passes.{PassStep}
use Rattle.vob.proofs.Bits.{join, length-bitwise, joined, none_set, none_in, empty_sized}
use Rattle.cfg_theory.proofs.Lists.{get_from_drop}

never : false ≡ true → ⊥
never e = cc

-- the set of a rule joined to what follows it, where the rule is nullable
pub rule_before : (keep : Bool) (old row : List Bool) (t : ℕ) → length old ≡ length row → IsTrue (is_set (join (if keep then old else replicate (length old) false) row) t) ↔ (IsTrue (is_set row t) ⊎ (IsTrue keep × IsTrue (is_set old t)))
rule_before true old row t e =
    let j = joined old row t e in
    (λ h. elim (j.0 h) [ inl x ↦ inr (refl, x) | inr y ↦ inl y ], λ h. elim h [ inl y ↦ j.1 (inr y) | inr x ↦ j.1 (inl x.1) ])
rule_before false old row t e =
    let j = joined (replicate (length old) false) row t (length-replicate (length old) false ∙ e) in
    (λ h. elim (j.0 h) [ inl x ↦ absurd (none_set (length old) t x) | inr y ↦ inl y ], λ h. elim h [ inl y ↦ j.1 (inr y) | inr x ↦ absurd (never x.0) ])

pub rule_before_all : (s : FirstSets) (A : ℕ) (keep : Bool) (old mid row new : List Bool) → keep ≡ is_set s.epsilons A → row ≡ get_or s.rows A [] → length old ≡ length row → mid ≡ (if keep then old else replicate (length old) false) → new ≡ join mid row →
    (t : ℕ) → IsTrue (is_set new t) ↔ FirstBefore s (rule A) (λ u. IsTrue (is_set old u)) t
rule_before_all s A keep old mid row new k r len m e t =
    let whole : new ≡ join (if keep then old else replicate (length old) false) row = e ∙ ap (λ l. join l row) m in
    let h = rule_before keep old row t len in
    let at : IsTrue (is_set new t) ↔ (IsTrue (is_set row t) ⊎ (IsTrue keep × IsTrue (is_set old t))) = subst (λ l. IsTrue (is_set l t) ↔ (IsTrue (is_set row t) ⊎ (IsTrue keep × IsTrue (is_set old t)))) (sym whole) h in
    subst (λ b. IsTrue (is_set new t) ↔ (HasFirst s A t ⊎ (IsTrue b × IsTrue (is_set old t)))) k (subst (λ l. IsTrue (is_set new t) ↔ (IsTrue (is_set l t) ⊎ (IsTrue keep × IsTrue (is_set old t)))) r at)

pub kept_width : (keep : Bool) (old mid row new : List Bool) → length old ≡ length row → mid ≡ (if keep then old else replicate (length old) false) → new ≡ join mid row → length new ≡ length row
kept_width keep old mid row new len m e =
    let same : length mid ≡ length row = ap length m ∙ by keep ∙ len in
    ap length e ∙ length-bitwise (λ x y. x || y) mid row same ∙ same
  where
    by : (b : Bool) → length (if b then old else replicate (length old) false) ≡ length old
    by true = refl
    by false = length-replicate (length old) false

-- a set joined to that of a rule
pub joined_first : (s : FirstSets) (A : ℕ) (old row new : List Bool) → row ≡ get_or s.rows A [] → length old ≡ length row → new ≡ join old row → (t : ℕ) → IsTrue (is_set new t) ↔ (IsTrue (is_set old t) ⊎ HasFirst s A t)
joined_first s A old row new r len e t =
    let at : IsTrue (is_set new t) ↔ (IsTrue (is_set old t) ⊎ IsTrue (is_set row t)) = subst (λ l. IsTrue (is_set l t) ↔ (IsTrue (is_set old t) ⊎ IsTrue (is_set row t))) (sym e) (joined old row t len) in
    subst (λ l. IsTrue (is_set new t) ↔ (IsTrue (is_set old t) ⊎ IsTrue (is_set l t))) r at

-- a set that was emptied and joined to another
pub copied : (old mid row new : List Bool) → length old ≡ length row → mid ≡ replicate (length old) false → new ≡ join mid row → (length new ≡ length row) × ((t : ℕ) → IsTrue (is_set new t) ↔ IsTrue (is_set row t))
copied old mid row new len m e =
    let same : length mid ≡ length row = ap length m ∙ length-replicate (length old) false ∙ len in
    (ap length e ∙ length-bitwise (λ x y. x || y) mid row same ∙ same, λ t. at same t)
  where
    at : length mid ≡ length row → (t : ℕ) → IsTrue (is_set new t) ↔ IsTrue (is_set row t)
    at same t =
        let j = joined mid row t same in (
          λ h. elim (j.0 (subst (λ l. IsTrue (is_set l t)) e h)) [ inl x ↦ absurd (none_set (length old) t (subst (λ l. IsTrue (is_set l t)) m x)) | inr y ↦ y ],
          λ h. subst (λ l. IsTrue (is_set l t)) (sym e) (j.1 (inr h)),
        )

pub drop_here : {X : Type 0} (l : List X) (i : ℕ) (x d : X) → i < length l → x ≡ get_or l i d → drop i l ≡ x ∷ drop (suc i) l
drop_here [] i x d lt e = absurd (omega arith)
drop_here (y ∷ l) zero x d lt e = ap (λ z. z ∷ l) (sym e)
drop_here (y ∷ l) (suc i) x d lt e = drop_here l i x d (omega arith) e

pub all_at : {X : Type 0} (s : FirstSets) (f : X → Sym) (xs : List X) (i : ℕ) (x d : X) → AllWithin s (map f xs) → i < length xs → x ≡ get_or xs i d → IsWithin s (f x)
all_at s f [] i x d h lt e = absurd (omega arith)
all_at s f (y ∷ xs) zero x d h lt e = subst (λ z. IsWithin s (f z)) (sym e) h.0
all_at s f (y ∷ xs) (suc i) x d h lt e = all_at s f xs i x d h.1 (omega arith) e

pub same_sets : (a b : FirstSets) → a.tokens ≡ b.tokens → a.rows ≡ b.rows → a.epsilons ≡ b.epsilons → a ≡ b
same_sets a b t r e =
    ap (λ x. record { tokens = x; rows = a.rows; epsilons = a.epsilons }) t ∙
    ap (λ x. record { tokens = b.tokens; rows = x; epsilons = a.epsilons }) r ∙
    ap (λ x. record { tokens = b.tokens; rows = b.rows; epsilons = x }) e

-- a step of the rows, and one of the nullable rules, are steps of the sets
pub rows_lifted : (C : List (List Bool) → Type 0) (old new : FirstSets) (changed : Bool) → new.tokens ≡ old.tokens → new.epsilons ≡ old.epsilons → PassStep missing_in C old.rows new.rows changed → PassStep first_room (λ s. C s.rows) old new changed
rows_lifted C old new changed tokens epsilons r = record {
  still = λ e. same_sets new old tokens (r.still e) epsilons;
  closed = r.closed;
  fewer = λ e. let less = r.fewer e in let y = ap missing epsilons in omega (arith, less, y);
}

-- closed everywhere and true: exact
pub table_of : (G : Grammar) (s : FirstSets) → AreSound G s → ((p : ℕ) → p < length G.productions → IsClosedAt G s p) → IsFirstTable G (λ A. IsTrue (is_set s.epsilons A)) (λ A t. IsTrue (is_set_in s.rows A t))
table_of G s sound closed = record {
  nullable = sound.nullable;
  first = sound.first;
  nullable_closed = λ p A o h. subst (λ B. HasEpsilon s B) o.head ((closed p o.in_range).nullable h);
  first_closed = λ p A t o h. subst (λ B. HasFirst s B t) o.head ((closed p o.in_range).first t h);
}

pub exact_firsts : (G : Grammar) (s : FirstSets) → FirstTablesAreExact → AreOf G s → AreSound G s → ((p : ℕ) → p < length G.productions → IsClosedAt G s p) → AreFirsts G s
exact_firsts G s law sizes sound closed =
    let e = law.exact G (is_set s.epsilons) (is_set_in s.rows) (table_of G s sound closed) in
    record { sizes = sizes; nullable = e.rule_nullable; first = e.rule_first }

pub none_sound : (G : Grammar) (n m k : ℕ) (s : FirstSets) → s.rows ≡ replicate n (replicate m false) → s.epsilons ≡ replicate k false → AreSound G s
none_sound G n m k s rows epsilons = record {
  nullable = λ A h. absurd (none_set k A (subst (λ l. IsTrue (is_set l A)) epsilons h));
  first = λ A t h. absurd (none_in n m A t (subst (λ l. IsTrue (is_set_in l A t)) rows h));
}

-- exact sets are a closed table, as the law on lists asks
pub first_table : (G : Grammar) (s : FirstSets) → AreFirsts G s → IsFirstTable G (λ A. IsTrue (is_set s.epsilons A)) (λ A t. IsTrue (is_set_in s.rows A t))
first_table G s k = record {
  nullable = λ A. (k.nullable A).0;
  first = λ A t. (k.first A t).0;
  nullable_closed = λ p A o h. (k.nullable A).1 (derives_rule G o (nullable_of G (HasEpsilon s) (HasFirst s) (λ B. (k.nullable B).0) (λ B u. (k.first B u).0) (body_of G p) h));
  first_closed = λ p A t o h. (k.first A t).1 (let d = first_of_list G (HasEpsilon s) (HasFirst s) (λ B. (k.nullable B).0) (λ B u. (k.first B u).0) (body_of G p) t h in (d.0, derives_rule G o d.1));
}

-- the symbols of a well-formed grammar have sets
pub within_of : (G : Grammar) (s : FirstSets) (X : Sym) → AreOf G s → InRange G X → IsWithin s X
within_of G s (rule A) h lt = subst (λ n. A < n) (sym h.rows.count) lt
within_of G s (token t) h lt = subst (λ n. t < n) (sym h.tokens) lt

pub body_within : (G : Grammar) (s : FirstSets) (p : ℕ) → WellFormed G → AreOf G s → AllWithin s (body_of G p)
body_within G s p good h = from (body_of G p) 0 refl
  where
    from : (a : List Sym) (d : ℕ) → drop d (body_of G p) ≡ a → AllWithin s a
    from [] d e = tt
    from (X ∷ a) d e = let r = get_from_drop (body_of G p) d X a e in (within_of G s X h (good.symbols p d X (record { at = r.0 })), from a (suc d) r.1)

pub empty_of : (G : Grammar) (s : FirstSets) (n m : ℕ) → n ≡ G.rules → m ≡ G.tokens → s.tokens ≡ m → s.rows ≡ replicate n (replicate m false) → s.epsilons ≡ replicate n false → AreOf G s
empty_of G s n m rules tokens t r e = record {
  tokens = t ∙ tokens;
  rules = ap length e ∙ length-replicate n false ∙ rules;
  rows = subst (λ k. AreRows k G.tokens s.rows) rules (subst (λ k. AreRows n k s.rows) tokens (empty_sized n m s.rows r));
}
