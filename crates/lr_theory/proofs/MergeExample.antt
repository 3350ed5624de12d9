-- Two sets of one core that don't join: after a c and after b c stand the same items, whose lookaheads are the other way round.
use Rattle.std.proofs.Common.{◌≡◌, ℕ, zero, suc, ◌<◌, ◌⊎◌, inl, inr, Bool, true, false, cond, ◌&&◌, nat_eq, eqb-true, List, [], ◌∷◌, slice_get, Some, refl, sym, ap, ◌∙◌, subst, arith}
use Rattle.cfg_theory.specs.Grammar.{Sym, rule, token, IsOf, IsNext, head_of, body_of}
use Rattle.cfg_theory.specs.Derivation.{Derives}
use Rattle.lr_theory.specs.Canonical.{Present, Look, from_dot}
use Rattle.lr_theory.specs.Itemset.{Entry, ItemSet, HasItem, HasLook, entry_at, IsCore, HasCore, WeaklyCompatible, Meet, Cross}
use Rattle.lr_theory.specs.Building.{Incompatible}
use Rattle.lr_theory.proofs.Literal.{some_same, none_some}
use Rattle.lr_theory.specs.SmallGrammars.{crossing, d_alone, e_alone, completed, after_a, after_b, Looks, CrossingStaysApart}

-- what such a set has
at4 : (a b : List Bool) → entry_at (completed a b) 4 1 ≡ Some a
unfolding entry_at
at4 a b = refl

at5 : (a b : List Bool) → entry_at (completed a b) 5 1 ≡ Some b
unfolding entry_at
at5 a b = refl

-- and no more
entry_or : (e : Entry) (s : ItemSet) (p d : ℕ) (bits : List Bool) → entry_at (e ∷ s) p d ≡ Some bits →
    ((p ≡ e.production) × (d ≡ e.dot) × (e.lookaheads ≡ bits)) ⊎ (entry_at s p d ≡ Some bits)
unfolding entry_at
entry_or e s p d bits h = go (nat_eq e.production p) (nat_eq e.dot d) refl refl h
  where
    go : (a b : Bool) → nat_eq e.production p ≡ a → nat_eq e.dot d ≡ b → cond (a && b) (Some e.lookaheads) (entry_at s p d) ≡ Some bits →
        ((p ≡ e.production) × (d ≡ e.dot) × (e.lookaheads ≡ bits)) ⊎ (entry_at s p d ≡ Some bits)
    go true true x y z = inl (sym (eqb-true e.production p x), sym (eqb-true e.dot d y), some_same e.lookaheads bits z)
    go true false x y z = inr z
    go false b x y z = inr z

entry_none : (p d : ℕ) (bits : List Bool) → entry_at [] p d ≡ Some bits → ⊥
unfolding entry_at
entry_none p d bits e = none_some bits e

entry_is : (a b bits : List Bool) (p d : ℕ) → entry_at (completed a b) p d ≡ Some bits → ((p ≡ 4) × (d ≡ 1) × (a ≡ bits)) ⊎ ((p ≡ 5) × (d ≡ 1) × (b ≡ bits))
entry_is a b bits p d e = by (entry_or (record { production = 4; dot = 1; lookaheads = a }) (record { production = 5; dot = 1; lookaheads = b } ∷ []) p d bits e)
  where
    last : ((p ≡ 5) × (d ≡ 1) × (b ≡ bits)) ⊎ (entry_at [] p d ≡ Some bits) → ((p ≡ 4) × (d ≡ 1) × (a ≡ bits)) ⊎ ((p ≡ 5) × (d ≡ 1) × (b ≡ bits))
    last (inl h) = inr h
    last (inr h) = absurd (entry_none p d bits h)

    by : ((p ≡ 4) × (d ≡ 1) × (a ≡ bits)) ⊎ (entry_at (record { production = 5; dot = 1; lookaheads = b } ∷ []) p d ≡ Some bits) → ((p ≡ 4) × (d ≡ 1) × (a ≡ bits)) ⊎ ((p ≡ 5) × (d ≡ 1) × (b ≡ bits))
    by (inl h) = inl h
    by (inr h) = last (entry_or (record { production = 5; dot = 1; lookaheads = b }) [] p d bits h)

-- an item of it is one of two
pub each_item : (a b : List Bool) (P : ℕ → ℕ → Type 0) → P 4 1 → P 5 1 → (p d : ℕ) → HasItem (completed a b) p d → P p d
each_item a b P x y p d h = by (entry_is a b h.lookaheads p d h.at)
  where
    by : ((p ≡ 4) × (d ≡ 1) × (a ≡ h.lookaheads)) ⊎ ((p ≡ 5) × (d ≡ 1) × (b ≡ h.lookaheads)) → P p d
    by (inl (i, j, e)) = subst (λ p. P p d) (sym i) (subst (P 4) (sym j) x)
    by (inr (i, j, e)) = subst (λ p. P p d) (sym i) (subst (P 5) (sym j) y)

-- a lookahead of it is one of those
each_look : (a b : List Bool) (P : ℕ → ℕ → ℕ → Type 0) → ((t : ℕ) → slice_get a t ≡ Some true → P 4 1 t) → ((t : ℕ) → slice_get b t ≡ Some true → P 5 1 t) → (p d t : ℕ) → HasLook (completed a b) p d t → P p d t
each_look a b P x y p d t h = by (entry_is a b h.lookaheads p d h.at)
  where
    by : ((p ≡ 4) × (d ≡ 1) × (a ≡ h.lookaheads)) ⊎ ((p ≡ 5) × (d ≡ 1) × (b ≡ h.lookaheads)) → P p d t
    by (inl (i, j, e)) = subst (λ p. P p d t) (sym i) (subst (λ d. P 4 d t) (sym j) (x t (ap (λ l. slice_get l t) e ∙ h.set)))
    by (inr (i, j, e)) = subst (λ p. P p d t) (sym i) (subst (λ d. P 5 d t) (sym j) (y t (ap (λ l. slice_get l t) e ∙ h.set)))

pub item4 : (a b : List Bool) → HasItem (completed a b) 4 1
item4 a b = record { lookaheads = a; at = at4 a b }

pub item5 : (a b : List Bool) → HasItem (completed a b) 5 1
item5 a b = record { lookaheads = b; at = at5 a b }

pub look4 : (a b : List Bool) (t : ℕ) → slice_get a t ≡ Some true → HasLook (completed a b) 4 1 t
look4 a b t e = record { lookaheads = a; at = at4 a b; set = e }

pub look5 : (a b : List Bool) (t : ℕ) → slice_get b t ≡ Some true → HasLook (completed a b) 5 1 t
look5 a b t e = record { lookaheads = b; at = at5 a b; set = e }

pub same_items : (a b a' b' : List Bool) (p d : ℕ) → HasItem (completed a b) p d → HasItem (completed a' b') p d
same_items a b a' b' p d = each_item a b (λ p d. HasItem (completed a' b') p d) (item4 a' b') (item5 a' b') p d

-- d and e
d_is : (t : ℕ) → slice_get d_alone t ≡ Some true → t ≡ 3
d_is zero e = cc
d_is (suc zero) e = cc
d_is (suc (suc zero)) e = cc
d_is (suc (suc (suc zero))) e = refl
d_is (suc (suc (suc (suc zero)))) e = cc
d_is (suc (suc (suc (suc (suc zero))))) e = cc
d_is (suc (suc (suc (suc (suc (suc t)))))) e = cc

e_is : (t : ℕ) → slice_get e_alone t ≡ Some true → t ≡ 4
e_is zero e = cc
e_is (suc zero) e = cc
e_is (suc (suc zero)) e = cc
e_is (suc (suc (suc zero))) e = cc
e_is (suc (suc (suc (suc zero)))) e = refl
e_is (suc (suc (suc (suc (suc zero))))) e = cc
e_is (suc (suc (suc (suc (suc (suc t)))))) e = cc

-- the token c stands at the front of the productions of A and B alone
c_next : (P : ℕ → ℕ → Type 0) → P 4 0 → P 5 0 → (p d : ℕ) → IsNext crossing p d (token 2) → P p d
unfolding body_of
c_next P x y zero zero n = cc
c_next P x y zero (suc zero) n = cc
c_next P x y zero (suc (suc zero)) n = cc
c_next P x y zero (suc (suc (suc d))) n = absurd (none_some (token 2) n.at)
c_next P x y (suc zero) zero n = cc
c_next P x y (suc zero) (suc zero) n = cc
c_next P x y (suc zero) (suc (suc zero)) n = cc
c_next P x y (suc zero) (suc (suc (suc d))) n = absurd (none_some (token 2) n.at)
c_next P x y (suc (suc zero)) zero n = cc
c_next P x y (suc (suc zero)) (suc zero) n = cc
c_next P x y (suc (suc zero)) (suc (suc zero)) n = cc
c_next P x y (suc (suc zero)) (suc (suc (suc d))) n = absurd (none_some (token 2) n.at)
c_next P x y (suc (suc (suc zero))) zero n = cc
c_next P x y (suc (suc (suc zero))) (suc zero) n = cc
c_next P x y (suc (suc (suc zero))) (suc (suc zero)) n = cc
c_next P x y (suc (suc (suc zero))) (suc (suc (suc d))) n = absurd (none_some (token 2) n.at)
c_next P x y (suc (suc (suc (suc zero)))) zero n = x
c_next P x y (suc (suc (suc (suc zero)))) (suc d) n = absurd (none_some (token 2) n.at)
c_next P x y (suc (suc (suc (suc (suc zero))))) zero n = y
c_next P x y (suc (suc (suc (suc (suc zero))))) (suc d) n = absurd (none_some (token 2) n.at)
c_next P x y (suc (suc (suc (suc (suc (suc zero)))))) zero n = cc
c_next P x y (suc (suc (suc (suc (suc (suc zero)))))) (suc d) n = absurd (none_some (token 2) n.at)
c_next P x y (suc (suc (suc (suc (suc (suc (suc p))))))) d n = absurd (none_some (token 2) n.at)

-- no body names ^
no_start : (p d A : ℕ) → IsNext crossing p d (rule A) → IsOf crossing 6 A → ⊥
unfolding body_of head_of
no_start p d A n o = named p d (subst (λ A. IsNext crossing p d (rule A)) (sym o.head) n)
  where
    named : (p d : ℕ) → IsNext crossing p d (rule 0) → ⊥
    named zero zero n = cc
    named zero (suc zero) n = cc
    named zero (suc (suc zero)) n = cc
    named zero (suc (suc (suc d))) n = none_some (rule 0) n.at
    named (suc zero) zero n = cc
    named (suc zero) (suc zero) n = cc
    named (suc zero) (suc (suc zero)) n = cc
    named (suc zero) (suc (suc (suc d))) n = none_some (rule 0) n.at
    named (suc (suc zero)) zero n = cc
    named (suc (suc zero)) (suc zero) n = cc
    named (suc (suc zero)) (suc (suc zero)) n = cc
    named (suc (suc zero)) (suc (suc (suc d))) n = none_some (rule 0) n.at
    named (suc (suc (suc zero))) zero n = cc
    named (suc (suc (suc zero))) (suc zero) n = cc
    named (suc (suc (suc zero))) (suc (suc zero)) n = cc
    named (suc (suc (suc zero))) (suc (suc (suc d))) n = none_some (rule 0) n.at
    named (suc (suc (suc (suc zero)))) zero n = cc
    named (suc (suc (suc (suc zero)))) (suc d) n = none_some (rule 0) n.at
    named (suc (suc (suc (suc (suc zero))))) zero n = cc
    named (suc (suc (suc (suc (suc zero))))) (suc d) n = none_some (rule 0) n.at
    named (suc (suc (suc (suc (suc (suc zero)))))) zero n = cc
    named (suc (suc (suc (suc (suc (suc zero)))))) (suc d) n = none_some (rule 0) n.at
    named (suc (suc (suc (suc (suc (suc (suc p))))))) d n = none_some (rule 0) n.at

-- behind c the core items are those two
core_behind_c : (a b : List Bool) {v w : List Sym} {p d : ℕ} → Present crossing v p d → v ≡ token 2 ∷ w → IsCore crossing p d → HasItem (completed a b) p d
core_behind_c a b (Present.start e) q c = absurd (empty q)
  where
    empty : {X : Sym} {w : List Sym} → [] ≡ X ∷ w → ⊥
    empty q = cc
core_behind_c a b {w = w} (Present.moved {w = u} {p} {d} {X} h n) q c = c_next (λ p d. HasItem (completed a b) p (suc d)) (item4 a b) (item5 a b) p d (subst (IsNext crossing p d) (last X (token 2) u w q) n)
  where
    last : (X Y : Sym) (u w : List Sym) → X ∷ u ≡ Y ∷ w → X ≡ Y
    last X Y u w q = cc
core_behind_c a b (Present.opened {p = p} {d} {A} {q = r} h n o) e c = absurd (no_start p d A n (subst (λ r. IsOf crossing r A) c o))

is_of : (p A : ℕ) → p < 7 → head_of crossing p ≡ A → IsOf crossing p A
is_of p A lt e = record { in_range = lt; head = e }

-- the items behind x and c
module _ (x : ℕ) where
  opened : (r : ℕ) → IsOf crossing r 1 → Present crossing [] r 0
  unfolding body_of
  opened r o = Present.opened (Present.start refl) (record { at = refl }) o

  behind : (r : ℕ) → IsOf crossing r 1 → IsNext crossing r 0 (token x) → Present crossing (token x ∷ []) r 1
  behind r o n = Present.moved (opened r o) n

  -- the production i of the rule C, which r names behind x
  present : (i r C : ℕ) → IsOf crossing r 1 → IsNext crossing r 0 (token x) → IsNext crossing r 1 (rule C) → IsOf crossing i C → IsNext crossing i 0 (token 2) → Present crossing (token 2 ∷ token x ∷ []) i 1
  present i r C o n k c m = Present.moved (Present.opened (behind r o n) k c) m

  look : (i r C t : ℕ) → IsOf crossing r 1 → IsNext crossing r 0 (token x) → IsNext crossing r 1 (rule C) → IsOf crossing i C → IsNext crossing i 0 (token 2) → from_dot crossing r 2 ≡ token t ∷ [] → Look crossing (token 2 ∷ token x ∷ []) i 1 t
  look i r C t o n k c m e = Look.moved (Look.first (behind r o n) k c ([], subst (λ l. Derives crossing l (token t ∷ [])) (sym e) Derives.none)) m

of0 : IsOf crossing 0 1
unfolding head_of
of0 = is_of 0 1 (omega arith) refl

of1 : IsOf crossing 1 1
unfolding head_of
of1 = is_of 1 1 (omega arith) refl

of2 : IsOf crossing 2 1
unfolding head_of
of2 = is_of 2 1 (omega arith) refl

of3 : IsOf crossing 3 1
unfolding head_of
of3 = is_of 3 1 (omega arith) refl

of4 : IsOf crossing 4 2
unfolding head_of
of4 = is_of 4 2 (omega arith) refl

of5 : IsOf crossing 5 3
unfolding head_of
of5 = is_of 5 3 (omega arith) refl

next : (p d : ℕ) (X : Sym) → slice_get (body_of crossing p) d ≡ Some X → IsNext crossing p d X
next p d X e = record { at = e }

core_after_a : HasCore crossing (HasItem after_a) (token 2 ∷ token 0 ∷ [])
unfolding body_of
core_after_a = record {
  core = λ p d h. each_item d_alone e_alone (λ p d. IsCore crossing p d) tt tt p d h;
  present = λ p d h. each_item d_alone e_alone (λ p d. Present crossing (token 2 ∷ token 0 ∷ []) p d) (present 0 4 0 2 of0 (next 0 0 (token 0) refl) (next 0 1 (rule 2) refl) of4 (next 4 0 (token 2) refl)) (present 0 5 2 3 of2 (next 2 0 (token 0) refl) (next 2 1 (rule 3) refl) of5 (next 5 0 (token 2) refl)) p d h;
  only = λ p d h c. core_behind_c d_alone e_alone h refl c;
}

core_after_b : HasCore crossing (HasItem after_b) (token 2 ∷ token 1 ∷ [])
unfolding body_of
core_after_b = record {
  core = λ p d h. each_item e_alone d_alone (λ p d. IsCore crossing p d) tt tt p d h;
  present = λ p d h. each_item e_alone d_alone (λ p d. Present crossing (token 2 ∷ token 1 ∷ []) p d) (present 1 4 3 2 of3 (next 3 0 (token 1) refl) (next 3 1 (rule 2) refl) of4 (next 4 0 (token 2) refl)) (present 1 5 1 3 of1 (next 1 0 (token 1) refl) (next 1 1 (rule 3) refl) of5 (next 5 0 (token 2) refl)) p d h;
  only = λ p d h c. core_behind_c e_alone d_alone h refl c;
}

looks_after_a : Looks after_a (token 2 ∷ token 0 ∷ [])
unfolding body_of
looks_after_a p d t h = each_look d_alone e_alone (λ p d t. Look crossing (token 2 ∷ token 0 ∷ []) p d t) (λ t e. subst (Look crossing (token 2 ∷ token 0 ∷ []) 4 1) (sym (d_is t e)) (look 0 4 0 2 3 of0 (next 0 0 (token 0) refl) (next 0 1 (rule 2) refl) of4 (next 4 0 (token 2) refl) refl)) (λ t e. subst (Look crossing (token 2 ∷ token 0 ∷ []) 5 1) (sym (e_is t e)) (look 0 5 2 3 4 of2 (next 2 0 (token 0) refl) (next 2 1 (rule 3) refl) of5 (next 5 0 (token 2) refl) refl)) p d t h

looks_after_b : Looks after_b (token 2 ∷ token 1 ∷ [])
unfolding body_of
looks_after_b p d t h = each_look e_alone d_alone (λ p d t. Look crossing (token 2 ∷ token 1 ∷ []) p d t) (λ t e. subst (Look crossing (token 2 ∷ token 1 ∷ []) 4 1) (sym (e_is t e)) (look 1 4 3 2 4 of3 (next 3 0 (token 1) refl) (next 3 1 (rule 2) refl) of4 (next 4 0 (token 2) refl) refl)) (λ t e. subst (Look crossing (token 2 ∷ token 1 ∷ []) 5 1) (sym (d_is t e)) (look 1 5 1 3 3 of1 (next 1 0 (token 1) refl) (next 1 1 (rule 3) refl) of5 (next 5 0 (token 2) refl) refl)) p d t h

-- the two items of a set with other lookaheads share none
module _ (a b : List Bool) (x y : ℕ) (differ : x ≡ y → ⊥) (a_is : (t : ℕ) → slice_get a t ≡ Some true → t ≡ x) (b_is : (t : ℕ) → slice_get b t ≡ Some true → t ≡ y) where
  look4_is : (p d t : ℕ) → HasLook (completed a b) p d t → p ≡ 4 → t ≡ x
  look4_is p d t h = each_look a b (λ p d t. p ≡ 4 → t ≡ x) (λ t e q. a_is t e) (λ t e q. absurd (omega (arith, q))) p d t h

  look5_is : (p d t : ℕ) → HasLook (completed a b) p d t → p ≡ 5 → t ≡ y
  look5_is p d t h = each_look a b (λ p d t. p ≡ 5 → t ≡ y) (λ t e q. absurd (omega (arith, q))) (λ t e q. b_is t e) p d t h

  no_meeting : Meet (HasLook (completed a b)) 4 1 5 1 → ⊥
  no_meeting (t, h, k) = differ (sym (look4_is 4 1 t h refl) ∙ look5_is 5 1 t k refl)

-- the two sets by themselves
pub apart_after_a : Meet (HasLook after_a) 4 1 5 1 → ⊥
apart_after_a = no_meeting d_alone e_alone 3 4 (λ e. absurd (omega (arith, e))) d_is e_is

pub apart_after_b : Meet (HasLook after_b) 4 1 5 1 → ⊥
apart_after_b = no_meeting e_alone d_alone 4 3 (λ e. absurd (omega (arith, e))) e_is d_is

pub other_way : Incompatible (HasItem after_a) (HasLook after_a) (HasLook after_b)
other_way = record {
  production = 4;
  dot = 1;
  other_production = 5;
  other_dot = 1;
  item = item4 d_alone e_alone;
  other_item = item5 d_alone e_alone;
  differ = λ e f. absurd (omega (arith, e));
  cross = (3, look4 d_alone e_alone 3 refl, look5 e_alone d_alone 3 refl);
  apart = apart_after_a;
  other_apart = apart_after_b;
}

pub not_compatible : WeaklyCompatible (HasItem after_a) (HasLook after_a) (HasLook after_b) → ⊥
unfolding other_way
not_compatible c = by (c 4 1 5 1 other_way.item other_way.other_item other_way.differ)
  where
    by : ((Cross (HasLook after_a) (HasLook after_b) 4 1 5 1 → ⊥) × (Cross (HasLook after_b) (HasLook after_a) 4 1 5 1 → ⊥)) ⊎ (Meet (HasLook after_a) 4 1 5 1 ⊎ Meet (HasLook after_b) 4 1 5 1) → ⊥
    by (inl (none, other)) = none other_way.cross
    by (inr (inl m)) = other_way.apart m
    by (inr (inr m)) = other_way.other_apart m

pub crossing_stays_apart : CrossingStaysApart
crossing_stays_apart = record {
  core_after_a = core_after_a;
  looks_after_a = looks_after_a;
  core_after_b = core_after_b;
  looks_after_b = looks_after_b;
  same = λ p d. (same_items d_alone e_alone e_alone d_alone p d, same_items e_alone d_alone d_alone e_alone p d);
  apart = not_compatible;
  stays_out = inr other_way;
}
