-- The items of a set, one by one.
use Rattle.std.proofs.Common.{◌≡◌, ℕ, zero, suc, ◌+◌, ◌<◌, ◌≤◌, Bool, true, false, ◌&&◌, cond, List, [], ◌∷◌, length, get_or, Some, refl, sym, subst, arith, ⊎_elim}
use Rattle.std.specs.Prelude.{nat_eq}
use Rattle.std.proofs.lemmas.Bool.{cases_lt}
use Rattle.std.proofs.lemmas.Bool.Decides.{nat_tests}
use Rattle.lr_theory.specs.Itemset.{Entry, ItemSet, entry_at, HasItem}

-- where an item stands
pub record Found (s : ItemSet) (p d : ℕ) : Type 0 where
  pub place : ℕ
  pub within : place < length s
  pub production : (e : Entry) → (get_or s place e).production ≡ p
  pub dot : (e : Entry) → (get_or s place e).dot ≡ d

found_here : (x : Entry) (s : ItemSet) (p d : ℕ) (b : Bool) → nat_eq x.production p && nat_eq x.dot d ≡ b → (HasItem s p d → Found s p d) →
    (bits : List Bool) → cond b (Some x.lookaheads) (entry_at s p d) ≡ Some bits → Found (x ∷ s) p d
found_here x s p d true e later bits h = record { place = 0; within = omega arith; production = λ _. grind (arith, nat_tests); dot = λ _. grind (arith, nat_tests) }
found_here x s p d false e later bits h =
    let f = later (record { lookaheads = bits; at = h }) in
    let lt = f.within in
    record { place = suc f.place; within = omega (arith, lt); production = f.production; dot = f.dot }

pub found : (s : ItemSet) (p d : ℕ) → HasItem s p d → Found s p d
unfolding entry_at
found [] p d h = cc h.at
found (x ∷ s) p d h = found_here x s p d (nat_eq x.production p && nat_eq x.dot d) refl (found s p d) h.lookaheads h.at

later_or_here : (x : Entry) (s : ItemSet) (p d : ℕ) (b : Bool) → nat_eq x.production p && nat_eq x.dot d ≡ b → HasItem s p d → HasItem (x ∷ s) p d
unfolding entry_at
later_or_here x s p d true e h = record { lookaheads = x.lookaheads; at = rw e refl }
later_or_here x s p d false e h = record { lookaheads = h.lookaheads; at = rw e h.at }

pub has_item_at : (s : ItemSet) (k : ℕ) (e : Entry) (p d : ℕ) → k < length s → (get_or s k e).production ≡ p → (get_or s k e).dot ≡ d → HasItem s p d
unfolding entry_at
has_item_at [] k e p d lt ep ed = absurd (omega (arith, lt))
has_item_at (x ∷ s) zero e p d lt ep ed =
    let b : nat_eq x.production p && nat_eq x.dot d ≡ true = rw (ep, ed) (grind (arith, nat_tests)) in
    record { lookaheads = x.lookaheads; at = rw b refl }
has_item_at (x ∷ s) (suc k) e p d lt ep ed = later_or_here x s p d (nat_eq x.production p && nat_eq x.dot d) refl (has_item_at s k e p d (omega (arith, lt)) ep ed)

pub blank : Entry
blank = record { production = 0; dot = 0; lookaheads = [] }

-- what holds of the items below a place
pub record ItemsBelow (s : ItemSet) (P : ℕ → ℕ → Type 0) (i : ℕ) : Type 0 where
  pub each : (k : ℕ) (e : Entry) → k < i → P (get_or s k e).production (get_or s k e).dot

pub below_none : (s : ItemSet) (P : ℕ → ℕ → Type 0) → ItemsBelow s P 0
below_none s P = record { each = λ k e lt. absurd (omega (arith, lt)) }

pub below_more : (s : ItemSet) (P : ℕ → ℕ → Type 0) (i p d : ℕ) → ItemsBelow s P i → ((e : Entry) → p ≡ (get_or s i e).production) → ((e : Entry) → d ≡ (get_or s i e).dot) → P p d → ItemsBelow s P (i + 1)
below_more s P i p d below ep ed h = record {
  each = λ k e lt. ⊎_elim
      (λ before. below.each k e before)
      (λ past.
      let at : i ≡ k = omega (arith, lt, past) in
      subst (λ j. P (get_or s j e).production (get_or s j e).dot) at (subst (λ q. P q (get_or s i e).dot) (ep e) (subst (P p) (ed e) h)))
      (cases_lt k i);
}

pub each_item : (s : ItemSet) (P : ℕ → ℕ → Type 0) (i : ℕ) → length s ≤ i → ItemsBelow s P i → (p d : ℕ) → HasItem s p d → P p d
each_item s P i all below p d h =
    let f = found s p d h in
    let lt = f.within in
    let b = below.each f.place blank (omega (arith, lt, all)) in
    subst (λ q. P q d) (f.production blank) (subst (P (get_or s f.place blank).production) (f.dot blank) b)

pub item_here : (s : ItemSet) (i p d : ℕ) → i < length s → ((e : Entry) → p ≡ (get_or s i e).production) → ((e : Entry) → d ≡ (get_or s i e).dot) → HasItem s p d
item_here s i p d lt ep ed = has_item_at s i blank p d lt (sym (ep blank)) (sym (ed blank))
