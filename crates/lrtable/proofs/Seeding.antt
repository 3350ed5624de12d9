-- What the items of a core open, one after another.
use Rattle.std.proofs.Common.{◌≡◌, ℕ, suc, ◌+◌, ◌≤◌, ◌⊎◌, inl, inr, ◌↔◌, Bool, List, length, refl, sym, ap, ◌∙◌, subst, subst₂, arith}
use Rattle.std.specs.Prelude.{IsTrue}
use Rattle.std.proofs.lemmas.Bool.{cases_eq}
use Rattle.std.proofs.lemmas.List.{get_or_default}
use Rattle.cfg_theory.specs.Grammar.{rule, Grammar, IsNext}
use Rattle.cfg_theory.specs.Derivation.{Nullable, IsFirst}
use Rattle.lr_theory.specs.Canonical.{from_dot}
use Rattle.lr_theory.specs.Itemset.{Items, Lookaheads, ItemSet, HasItem, HasLook, SameItems, SameLooks}
use Rattle.vob.specs.Sets.{is_set}
use Rattle.state_table.specs.Adding.{SingleItem, OneLooks}
use Rattle.state_table.specs.ItemRows.{Item, IsAt, Core, IsCoreOf, map_of}
use Rattle.state_table.specs.Meeting.{row}
use Rattle.lrtable.specs.Opening.{Front, RuleSets, IsOpen, HasRuleLook, Brings, Follows}
use Rattle.lrtable.specs.Closes.{Seeds, SeedsLook, AreSeeds, IsRest}
use Rattle.lrtable.specs.Stepping.{ItemsBelow, LooksBelow}
use Rattle.lrtable.proofs.OpenLaws.{none_follow, follow_on, follow_as}
use Rattle.state_table.proofs.ItemSets.{has_item, has_look}
use Rattle.lrtable.proofs.Fronts.{next_is}

-- what is as much opens as much
pub seeds_as : (G : Grammar) (I J : Items) (A : ℕ) → SameItems I J → Seeds G I A → Seeds G J A
seeds_as G I J A h (p, d, i, n) = (p, d, (h p d).0 i, n)

pub seed_looks_as : (G : Grammar) (I J : Items) (L M : Lookaheads) (A t : ℕ) → SameItems I J → SameLooks L M → SeedsLook G I L A t → SeedsLook G J M A t
seed_looks_as G I J L M A t h k (inl (p, d, i, n, f)) = inl (p, d, (h p d).0 i, n, f)
seed_looks_as G I J L M A t h k (inr (p, d, i, n, f)) = inr (p, d, (k p d t).0 i, n, f)

-- a lookahead comes to what is opened
pub seeds_named : (G : Grammar) (s : ItemSet) (A t : ℕ) → SeedsLook G (HasItem s) (HasLook s) A t → Seeds G (HasItem s) A
seeds_named G s A t (inl (p, d, i, n, f)) = (p, d, i, n)
seeds_named G s A t (inr (p, d, l, n, f)) = (p, d, record { lookaheads = l.lookaheads; at = l.at }, n)

-- one item that stands before a rule
module _ (G : Grammar) (p d A : ℕ) (bits begins : List Bool) (skipped : Bool) (n : IsNext G p d (rule A)) (rest : IsRest G p d begins skipped) where
  front : Front
  front = record { rule = A; first = begins; nullable = skipped }

  named : (B : ℕ) → (A ≡ B) ↔ Seeds G (SingleItem p d) B
  named B = (
    λ e. (p, d, (refl, refl), subst (λ C. IsNext G p d (rule C)) e n),
    λ h. next_is G p d A B n (subst₂ (λ q e. IsNext G q e (rule B)) h.2.0 h.2.1 h.3),
  )

  brought : (B t : ℕ) → ((A ≡ B) × Brings bits (record { rule = A; first = begins; nullable = skipped }) t) ↔ SeedsLook G (SingleItem p d) (OneLooks p d bits) B t
  brought B t = (to, back)
    where
      to : (A ≡ B) × Brings bits (record { rule = A; first = begins; nullable = skipped }) t → SeedsLook G (SingleItem p d) (OneLooks p d bits) B t
      to (e, inl f) = inl (p, d, (refl, refl), subst (λ C. IsNext G p d (rule C)) e n, (rest.first t).0 f)
      to (e, inr f) = inr (p, d, (refl, refl, f.1), subst (λ C. IsNext G p d (rule C)) e n, rest.nullable.0 f.0)

      back : SeedsLook G (SingleItem p d) (OneLooks p d bits) B t → (A ≡ B) × Brings bits (record { rule = A; first = begins; nullable = skipped }) t
      back (inl (q, e, i, m, f)) =
          let m' = subst₂ (λ r s. IsNext G r s (rule B)) i.0 i.1 m in
          (next_is G p d A B n m', inl ((rest.first t).1 (subst₂ (λ r s. IsFirst G (from_dot G r (suc s)) t) i.0 i.1 f)))
      back (inr (q, e, i, m, f)) =
          let m' = subst₂ (λ r s. IsNext G r s (rule B)) i.0 i.1 m in
          (next_is G p d A B n m', inr (rest.nullable.1 (subst₂ (λ r s. Nullable G (from_dot G r (suc s))) i.0 i.1 f), i.2))

  pub seeds_one : (old new : RuleSets) (was now : List ℕ) → Follows (λ B. A ≡ B) (λ B t. (A ≡ B) × Brings bits (record { rule = A; first = begins; nullable = skipped }) t) old new was now →
      Follows (Seeds G (SingleItem p d)) (SeedsLook G (SingleItem p d) (OneLooks p d bits)) old new was now
  seeds_one old new was now h = follow_as _ _ _ _ old new was now named brought h

-- one that stands before none
pub seeds_none : (G : Grammar) (p d : ℕ) (bits : List Bool) (s : RuleSets) (waiting : List ℕ) → ((A : ℕ) → IsNext G p d (rule A) → ⊥) → Follows (Seeds G (SingleItem p d)) (SeedsLook G (SingleItem p d) (OneLooks p d bits)) s s waiting waiting
seeds_none G p d bits s waiting none = none_follow (Seeds G (SingleItem p d)) (SeedsLook G (SingleItem p d) (OneLooks p d bits)) s waiting rules looks
  where
    rules : (A : ℕ) → Seeds G (SingleItem p d) A → ⊥
    rules A (q, e, i, n) = none A (subst₂ (λ r s. IsNext G r s (rule A)) i.0 i.1 n)

    looks : (A t : ℕ) → SeedsLook G (SingleItem p d) (OneLooks p d bits) A t → ⊥
    looks A t (inl (q, e, i, n, f)) = none A (subst₂ (λ r s. IsNext G r s (rule A)) i.0 i.1 n)
    looks A t (inr (q, e, i, n, f)) = none A (subst₂ (λ r s. IsNext G r s (rule A)) i.0 i.1 n)

-- one item stands at an index
same_keys : (items : List Item) (k q e p d : ℕ) → IsAt items k q e → IsAt items k p d → (q ≡ p) × (e ≡ d)
same_keys items k q e p d h at = (
  sym h.production ∙ ap (λ (x : Item). x.production) (get_or_default items k (record { production = q; dot = e }) (record { production = p; dot = d }) at.within) ∙ at.production,
  sym h.dot ∙ ap (λ (x : Item). x.dot) (get_or_default items k (record { production = q; dot = e }) (record { production = p; dot = d }) at.within) ∙ at.dot,
)

-- the items of a core, one more
pub below_next : (c : Core) (k p d : ℕ) → IsAt c.items k p d → SameItems (λ q e. ItemsBelow c k q e ⊎ SingleItem p d q e) (ItemsBelow c (k + 1))
below_next c k p d at q e = (to, back)
  where
    to : ItemsBelow c k q e ⊎ SingleItem p d q e → ItemsBelow c (k + 1) q e
    to (inl (j, lt, h)) = (j, omega (arith, lt), h)
    to (inr (x, y)) = (k, omega arith, subst₂ (λ r s. IsAt c.items k r s) (sym x) (sym y) at)

    back : ItemsBelow c (k + 1) q e → ItemsBelow c k q e ⊎ SingleItem p d q e
    back (j, lt, h) = elim (cases_eq j k) [
      | inl f ↦ inr (same_keys c.items k q e p d (subst (λ m. IsAt c.items m q e) f h) at)
      | inr ne ↦ inl (j, omega (arith, lt, ne), h)
    ]

pub looks_next : (c : Core) (k p d : ℕ) (bits : List Bool) → IsAt c.items k p d → row c.rows k ≡ bits → SameLooks (λ q e t. LooksBelow c k q e t ⊎ OneLooks p d bits q e t) (LooksBelow c (k + 1))
looks_next c k p d bits at r q e t = (to, back)
  where
    to : LooksBelow c k q e t ⊎ OneLooks p d bits q e t → LooksBelow c (k + 1) q e t
    to (inl (j, lt, h, s)) = (j, omega (arith, lt), h, s)
    to (inr (x, y, s)) = (k, omega arith, subst₂ (λ r s. IsAt c.items k r s) (sym x) (sym y) at, subst (λ l. IsTrue (is_set l t)) (sym r) s)

    back : LooksBelow c (k + 1) q e t → LooksBelow c k q e t ⊎ OneLooks p d bits q e t
    back (j, lt, h, s) = elim (cases_eq j k) [
      | inl f ↦ (let keys = same_keys c.items k q e p d (subst (λ m. IsAt c.items m q e) f h) at in inr (keys.0, keys.1, subst (λ l. IsTrue (is_set l t)) (ap (row c.rows) f ∙ r) s))
      | inr ne ↦ inl (j, omega (arith, lt, ne), h, s)
    ]

pub below_none : (c : Core) (p d : ℕ) → ItemsBelow c 0 p d → ⊥
below_none c p d (j, lt, h) = omega (arith, lt)

pub below_all : (c : Core) (tokens k : ℕ) → IsCoreOf tokens c → length c.items ≤ k → SameItems (ItemsBelow c k) (HasItem (map_of c))
below_all c tokens k good le p d = (
  λ h. (has_item c.items c.rows good.ascends good.count p d).1 (h.0, h.2),
  λ h. (let f = (has_item c.items c.rows good.ascends good.count p d).0 h in (f.0, (let w = f.1.within in omega (arith, w, le)), f.1)),
)

pub looks_all : (c : Core) (tokens k : ℕ) → IsCoreOf tokens c → length c.items ≤ k → SameLooks (LooksBelow c k) (HasLook (map_of c))
looks_all c tokens k good le p d t = (
  λ h. (has_look c.items c.rows good.ascends good.count p d t).1 (h.0, h.2, h.3),
  λ h. (let f = (has_look c.items c.rows good.ascends good.count p d t).0 h in (f.0, (let w = f.1.within in omega (arith, w, le)), f.1, f.2)),
)

-- the items of a core open what they open, one item more
pub seeds_next : (G : Grammar) (c : Core) (k p d : ℕ) (bits : List Bool) (a b e : RuleSets) (u v w : List ℕ) → IsAt c.items k p d → row c.rows k ≡ bits →
    Follows (Seeds G (ItemsBelow c k)) (SeedsLook G (ItemsBelow c k) (LooksBelow c k)) a b u v → Follows (Seeds G (SingleItem p d)) (SeedsLook G (SingleItem p d) (OneLooks p d bits)) b e v w →
    Follows (Seeds G (ItemsBelow c (k + 1))) (SeedsLook G (ItemsBelow c (k + 1)) (LooksBelow c (k + 1))) a e u w
seeds_next G c k p d bits a b e u v w at r h m = follow_as _ _ _ _ a e u w rules looks
    (follow_on (Seeds G (ItemsBelow c k)) (Seeds G (SingleItem p d)) (SeedsLook G (ItemsBelow c k) (LooksBelow c k)) (SeedsLook G (SingleItem p d) (OneLooks p d bits)) a b e u v w h m)
  where
    rules : (A : ℕ) → (Seeds G (ItemsBelow c k) A ⊎ Seeds G (SingleItem p d) A) ↔ Seeds G (ItemsBelow c (k + 1)) A
    rules A = (
      λ x. elim x [ inl y ↦ (y.0, y.1, (below_next c k p d at y.0 y.1).0 (inl y.2), y.3) | inr y ↦ (y.0, y.1, (below_next c k p d at y.0 y.1).0 (inr y.2), y.3) ],
      λ x. elim ((below_next c k p d at x.0 x.1).1 x.2) [ inl y ↦ inl (x.0, x.1, y, x.3) | inr y ↦ inr (x.0, x.1, y, x.3) ],
    )

    to : (A t : ℕ) → SeedsLook G (ItemsBelow c k) (LooksBelow c k) A t ⊎ SeedsLook G (SingleItem p d) (OneLooks p d bits) A t → SeedsLook G (ItemsBelow c (k + 1)) (LooksBelow c (k + 1)) A t
    to A t (inl (inl y)) = inl (y.0, y.1, (below_next c k p d at y.0 y.1).0 (inl y.2), y.3, y.4)
    to A t (inr (inl y)) = inl (y.0, y.1, (below_next c k p d at y.0 y.1).0 (inr y.2), y.3, y.4)
    to A t (inl (inr y)) = inr (y.0, y.1, (looks_next c k p d bits at r y.0 y.1 t).0 (inl y.2), y.3, y.4)
    to A t (inr (inr y)) = inr (y.0, y.1, (looks_next c k p d bits at r y.0 y.1 t).0 (inr y.2), y.3, y.4)

    back : (A t : ℕ) → SeedsLook G (ItemsBelow c (k + 1)) (LooksBelow c (k + 1)) A t → SeedsLook G (ItemsBelow c k) (LooksBelow c k) A t ⊎ SeedsLook G (SingleItem p d) (OneLooks p d bits) A t
    back A t (inl x) = elim ((below_next c k p d at x.0 x.1).1 x.2) [ inl y ↦ inl (inl (x.0, x.1, y, x.3, x.4)) | inr y ↦ inr (inl (x.0, x.1, y, x.3, x.4)) ]
    back A t (inr x) = elim ((looks_next c k p d bits at r x.0 x.1 t).1 x.2) [ inl y ↦ inl (inr (x.0, x.1, y, x.3, x.4)) | inr y ↦ inr (inr (x.0, x.1, y, x.3, x.4)) ]

    looks : (A t : ℕ) → (SeedsLook G (ItemsBelow c k) (LooksBelow c k) A t ⊎ SeedsLook G (SingleItem p d) (OneLooks p d bits) A t) ↔ SeedsLook G (ItemsBelow c (k + 1)) (LooksBelow c (k + 1)) A t
    looks A t = (to A t, back A t)

-- none of them so far
pub seeds_begin : (G : Grammar) (c : Core) (s : RuleSets) (waiting : List ℕ) → Follows (Seeds G (ItemsBelow c 0)) (SeedsLook G (ItemsBelow c 0) (LooksBelow c 0)) s s waiting waiting
seeds_begin G c s waiting = none_follow (Seeds G (ItemsBelow c 0)) (SeedsLook G (ItemsBelow c 0) (LooksBelow c 0)) s waiting rules looks
  where
    rules : (A : ℕ) → Seeds G (ItemsBelow c 0) A → ⊥
    rules A (q, e, i, n) = below_none c q e i

    looks : (A t : ℕ) → SeedsLook G (ItemsBelow c 0) (LooksBelow c 0) A t → ⊥
    looks A t (inl (q, e, i, n, f)) = below_none c q e i
    looks A t (inr (q, e, i, n, f)) = below_none c q e (i.0, i.1, i.2)

-- all of them
pub seeds_end : (G : Grammar) (c : Core) (k : ℕ) (a b : RuleSets) (u v : List ℕ) → IsCoreOf G.tokens c → length c.items ≤ k → Follows (Seeds G (ItemsBelow c k)) (SeedsLook G (ItemsBelow c k) (LooksBelow c k)) a b u v →
    Follows (Seeds G (HasItem (map_of c))) (SeedsLook G (HasItem (map_of c)) (HasLook (map_of c))) a b u v
seeds_end G c k a b u v good le h =
    let same = below_all c G.tokens k good le in
    let same_looks = looks_all c G.tokens k good le in
    follow_as (Seeds G (ItemsBelow c k)) (Seeds G (HasItem (map_of c))) (SeedsLook G (ItemsBelow c k) (LooksBelow c k)) (SeedsLook G (HasItem (map_of c)) (HasLook (map_of c))) a b u v
    (λ A. (seeds_as G (ItemsBelow c k) (HasItem (map_of c)) A same, seeds_as G (HasItem (map_of c)) (ItemsBelow c k) A (λ p d. ((same p d).1, (same p d).0))))
    (λ A t. (
      seed_looks_as G (ItemsBelow c k) (HasItem (map_of c)) (LooksBelow c k) (HasLook (map_of c)) A t same same_looks,
      seed_looks_as G (HasItem (map_of c)) (ItemsBelow c k) (HasLook (map_of c)) (LooksBelow c k) A t (λ p d. ((same p d).1, (same p d).0)) (λ p d t. ((same_looks p d t).1, (same_looks p d t).0)),
    )) h

-- what came to empty sets is what the items open
pub are_seeds : (G : Grammar) (I : Items) (L : Lookaheads) (empty s : RuleSets) (u v : List ℕ) → ((A : ℕ) → IsOpen empty A → ⊥) → ((A t : ℕ) → HasRuleLook empty A t → ⊥) → Follows (Seeds G I) (SeedsLook G I L) empty s u v → AreSeeds G I L s
are_seeds G I L empty s u v none no_look h = record {
  rules = λ A. (λ x. elim (h.comes.only_rules A x) [ inl y ↦ absurd (none A y) | inr y ↦ y ], h.comes.rules A);
  looks = λ A t. (λ x. elim (h.comes.only_looks A t x) [ inl y ↦ absurd (no_look A t y) | inr y ↦ y ], h.comes.looks A t);
}
