-- An item put into a map in its order, or its lookaheads joined to those that it has there.
use Rattle.std.proofs.Common.{◌≡◌, ℕ, ◌+◌, ◌-◌, ◌<◌, ◌≤◌, ◌⊎◌, inl, inr, Bool, List, [], length, get_or, set, refl, sym, ap, ◌∙◌, subst, subst₂, arith, length-set, get_or-set_same, get_or-set_other}
use Rattle.std.specs.Prelude.{IsTrue}
use Rattle.std.specs.List.{insert, AllPairs}
use Rattle.std.proofs.lemmas.Bool.{cases_eq, cases_lt}
use Rattle.std.proofs.lemmas.List.{get_or_default}
use Rattle.std.proofs.lemmas.List.Edits.{length-insert, get_or-insert_below, get_or-insert_at, get_or-insert_above}
use Rattle.vob.specs.Sets.{is_set}
use Rattle.lr_theory.specs.Itemset.{HasItem, HasLook}
use Rattle.state_table.specs.Meeting.{row}
use Rattle.state_table.specs.ItemRows.{Item, IsAt, ItemBefore, Ascends, Core, map_of, IsCoreOf}
use Rattle.state_table.specs.Adding.{Adds}
use Rattle.state_table.proofs.ItemSets.{has_item, has_look}
use Rattle.vob.proofs.Bits.{join, joined}

-- ---- the order

pub before_trans : (a b c : Item) → ItemBefore a b → ItemBefore b c → ItemBefore a c
before_trans a b c (inl h) (inl k) = inl (omega (arith, h, k))
before_trans a b c (inl h) (inr k) = let e = k.0 in inl (omega (arith, h, e))
before_trans a b c (inr h) (inl k) = let e = h.0 in inl (omega (arith, e, k))
before_trans a b c (inr h) (inr k) = let lt = h.1 in let lt' = k.1 in inr (h.0 ∙ k.0, omega (arith, lt, lt'))

same_item_by : (i j : Item) → i.production ≡ j.production → i.dot ≡ j.dot → i ≡ j
same_item_by i j e f = ap (λ (p : ℕ). record { production = p; dot = i.dot }) e ∙ ap (λ (d : ℕ). record { production = j.production; dot = d }) f

pub not_before : (i j : Item) → (ItemBefore i j → ⊥) → (i ≡ j → ⊥) → ItemBefore j i
not_before i j n ne = elim (cases_lt j.production i.production) [
  | inl lt ↦ inl lt
  | inr ge ↦ elim (cases_eq i.production j.production) [
    | inl e ↦ elim (cases_lt j.dot i.dot) [
      | inl lt ↦ inr (sym e, lt)
      | inr le ↦ elim (cases_eq i.dot j.dot) [ inl f ↦ absurd (ne (same_item_by i j e f)) | inr k ↦ absurd (n (inr (e, omega (arith, le, k)))) ]
    ]
    | inr k ↦ absurd (n (inl (omega (arith, ge, k))))
  ]
]

-- ---- an insert

-- the element at an index of the list after an insert: at one before it, at it, or at one after it
pub data Inserted (k : ℕ) (j : ℕ) : Type 0 where
  lower : j < k → Inserted k j
  equal : j ≡ k → Inserted k j
  upper : (m : ℕ) → m + 1 ≡ j → k ≤ m → Inserted k j

pub inserted : (k j : ℕ) → Inserted k j
inserted k j = elim (cases_lt j k) [
  | inl lt ↦ lower lt
  | inr ge ↦ elim (cases_eq j k) [ inl e ↦ equal e | inr ne ↦ upper (j - 1) (omega (arith, ge, ne)) (omega (arith, ge, ne)) ]
]

module _ {X : Type 0} (xs : List X) (k : ℕ) (x : X) (le : k ≤ length xs) where
  pub got_below : (j : ℕ) (d : X) → j < k → get_or (insert xs k x) j d ≡ get_or xs j d
  got_below j d lt = get_or-insert_below xs k x d j lt le

  pub got_here : (j : ℕ) (d : X) → j ≡ k → get_or (insert xs k x) j d ≡ x
  got_here j d e = ap (λ n. get_or (insert xs k x) n d) e ∙ get_or-insert_at xs k x d le

  pub got_above : (j m : ℕ) (d : X) → m + 1 ≡ j → k ≤ m → get_or (insert xs k x) j d ≡ get_or xs m d
  got_above j m d e ge = ap (λ n. get_or (insert xs k x) n d) (sym e) ∙ get_or-insert_above xs k x d m ge le

  -- what holds of each two elements does so after an insert, where it holds of the new one and those around it
  pub all_pairs_insert : (R : X → X → Type 0) → AllPairs R xs → ((j : ℕ) (d : X) → j < k → R (get_or xs j d) x) → ((j : ℕ) (d : X) → k ≤ j → j < length xs → R x (get_or xs j d)) → AllPairs R (insert xs k x)
  all_pairs_insert R a low high = λ j m d lt within. by j m d lt within (inserted k j) (inserted k m)
    where
      size : length (insert xs k x) ≡ length xs + 1
      size = length-insert xs k x le

      new : ℕ → X → X
      new j d = get_or (insert xs k x) j d

      by : (j m : ℕ) (d : X) → j < m → m < length (insert xs k x) → Inserted k j → Inserted k m → R (new j d) (new m d)
      by j m d lt within (lower u) (lower v) = subst₂ R (sym (got_below j d u)) (sym (got_below m d v)) (a j m d lt (omega (arith, v, le)))
      by j m d lt within (lower u) (equal v) = subst₂ R (sym (got_below j d u)) (sym (got_here m d v)) (low j d u)
      by j m d lt within (lower u) (upper n e v) = subst₂ R (sym (got_below j d u)) (sym (got_above m n d e v)) (a j n d (omega (arith, u, v)) (let c = size in omega (arith, within, e, c)))
      by j m d lt within (equal u) (lower v) = absurd (omega (arith, lt, u, v))
      by j m d lt within (equal u) (equal v) = absurd (omega (arith, lt, u, v))
      by j m d lt within (equal u) (upper n e v) = subst₂ R (sym (got_here j d u)) (sym (got_above m n d e v)) (high n d v (let c = size in omega (arith, within, e, c)))
      by j m d lt within (upper n e u) (lower v) = absurd (omega (arith, lt, e, u, v))
      by j m d lt within (upper n e u) (equal v) = absurd (omega (arith, lt, e, u, v))
      by j m d lt within (upper n e u) (upper o f v) = subst₂ R (sym (got_above j n d e u)) (sym (got_above m o d f v)) (a n o d (omega (arith, lt, e, f)) (let c = size in omega (arith, within, f, c)))

module _ (items : List Item) (k : ℕ) (i : Item) (le : k ≤ length items) where
  count : length (insert items k i) ≡ length items + 1
  count = length-insert items k i le

  pub ascends_insert : Ascends items → ((j : ℕ) (d : Item) → j < k → ItemBefore (get_or items j d) i) → ((j : ℕ) (d : Item) → k ≤ j → j < length items → ItemBefore i (get_or items j d)) → Ascends (insert items k i)
  ascends_insert a low high = all_pairs_insert items k i le ItemBefore a low high

  -- where an item stands afterwards
  pub to_new_below : (j p d : ℕ) → j < k → IsAt items j p d → IsAt (insert items k i) j p d
  to_new_below j p d lt h = record {
    within = (let w = h.within in let c = count in omega (arith, w, c));
    production = ap (λ (x : Item). x.production) (got_below items k i le j (record { production = p; dot = d }) lt) ∙ h.production;
    dot = ap (λ (x : Item). x.dot) (got_below items k i le j (record { production = p; dot = d }) lt) ∙ h.dot;
  }

  pub to_new_above : (j p d : ℕ) → k ≤ j → IsAt items j p d → IsAt (insert items k i) (j + 1) p d
  to_new_above j p d ge h = record {
    within = (let w = h.within in let c = count in omega (arith, w, c));
    production = ap (λ (x : Item). x.production) (got_above items k i le (j + 1) j (record { production = p; dot = d }) refl ge) ∙ h.production;
    dot = ap (λ (x : Item). x.dot) (got_above items k i le (j + 1) j (record { production = p; dot = d }) refl ge) ∙ h.dot;
  }

  pub at_new : IsAt (insert items k i) k i.production i.dot
  at_new = record {
    within = (let c = count in omega (arith, c, le));
    production = ap (λ (x : Item). x.production) (got_here items k i le k (record { production = i.production; dot = i.dot }) refl);
    dot = ap (λ (x : Item). x.dot) (got_here items k i le k (record { production = i.production; dot = i.dot }) refl);
  }

  pub from_below : (j p d : ℕ) → j < k → IsAt (insert items k i) j p d → IsAt items j p d
  from_below j p d lt h = record {
    within = omega (arith, lt, le);
    production = ap (λ (x : Item). x.production) (sym (got_below items k i le j (record { production = p; dot = d }) lt)) ∙ h.production;
    dot = ap (λ (x : Item). x.dot) (sym (got_below items k i le j (record { production = p; dot = d }) lt)) ∙ h.dot;
  }

  pub from_above : (j m p d : ℕ) → m + 1 ≡ j → k ≤ m → IsAt (insert items k i) j p d → IsAt items m p d
  from_above j m p d e ge h = record {
    within = (let w = h.within in let c = count in omega (arith, w, c, e));
    production = ap (λ (x : Item). x.production) (sym (got_above items k i le j m (record { production = p; dot = d }) e ge)) ∙ h.production;
    dot = ap (λ (x : Item). x.dot) (sym (got_above items k i le j m (record { production = p; dot = d }) e ge)) ∙ h.dot;
  }

  pub from_here : (j p d : ℕ) → j ≡ k → IsAt (insert items k i) j p d → (p ≡ i.production) × (d ≡ i.dot)
  from_here j p d e h = (
    sym h.production ∙ ap (λ (x : Item). x.production) (got_here items k i le j (record { production = p; dot = d }) e),
    sym h.dot ∙ ap (λ (x : Item). x.dot) (got_here items k i le j (record { production = p; dot = d }) e),
  )

-- a new item
module _ (c : Core) (k : ℕ) (i : Item) (bits : List Bool) (tokens : ℕ) (good : IsCoreOf tokens c) (le : k ≤ length c.items) (wide : length bits ≡ tokens)
    (low : (j : ℕ) (d : Item) → j < k → ItemBefore (get_or c.items j d) i) (high : (j : ℕ) (d : Item) → k ≤ j → j < length c.items → ItemBefore i (get_or c.items j d)) where
  le' : k ≤ length c.rows
  le' = let n = good.count in omega (arith, n, le)

  abbrev new : Core
  new = record { items = insert c.items k i; rows = insert c.rows k bits }

  pub inserted_core : IsCoreOf tokens (record { items = insert c.items k i; rows = insert c.rows k bits })
  inserted_core = record {
    ascends = ascends_insert c.items k i le good.ascends low high;
    count = (let n = length-insert c.rows k bits le' in let m = length-insert c.items k i le in let e = good.count in omega (arith, n, m, e));
    width = λ j lt. by j lt (inserted k j);
  }
    where
      by : (j : ℕ) → j < length (insert c.rows k bits) → Inserted k j → length (get_or (insert c.rows k bits) j []) ≡ tokens
      by j lt (lower x) = ap length (got_below c.rows k bits le' j [] x) ∙ good.width j (let l = le' in omega (arith, x, l))
      by j lt (equal x) = ap length (got_here c.rows k bits le' j [] x) ∙ wide
      by j lt (upper m e x) = ap length (got_above c.rows k bits le' j m [] e x) ∙ good.width m (let n = length-insert c.rows k bits le' in omega (arith, lt, n, e))

  pub inserted_adds : Adds (map_of c) i.production i.dot bits (map_of (record { items = insert c.items k i; rows = insert c.rows k bits }))
  inserted_adds = record {
    items = λ q e. (λ h. (has_item new.items new.rows inserted_core.ascends inserted_core.count q e).1 (to q e h), λ h. back q e ((has_item new.items new.rows inserted_core.ascends inserted_core.count q e).0 h));
    looks = λ q e t. (λ h. (has_look new.items new.rows inserted_core.ascends inserted_core.count q e t).1 (to_look q e t h), λ h. back_look q e t ((has_look new.items new.rows inserted_core.ascends inserted_core.count q e t).0 h));
  }
    where
      here : (q e : ℕ) → q ≡ i.production → e ≡ i.dot → IsAt (insert c.items k i) k q e
      here q e x y = subst₂ (λ r s. IsAt (insert c.items k i) k r s) (sym x) (sym y) (at_new c.items k i le)

      to : (q e : ℕ) → HasItem (map_of c) q e ⊎ ((q ≡ i.production) × (e ≡ i.dot)) → (j : ℕ) × IsAt (insert c.items k i) j q e
      to q e (inr (x, y)) = (k, here q e x y)
      to q e (inl h) =
          let (j, stand) = (has_item c.items c.rows good.ascends good.count q e).0 h in
          elim (cases_lt j k) [ inl lt ↦ (j, to_new_below c.items k i le j q e lt stand) | inr ge ↦ (j + 1, to_new_above c.items k i le j q e ge stand) ]

      back : (q e : ℕ) → (j : ℕ) × IsAt (insert c.items k i) j q e → HasItem (map_of c) q e ⊎ ((q ≡ i.production) × (e ≡ i.dot))
      back q e (j, stand) = elim (inserted k j) [
        | lower x ↦ inl ((has_item c.items c.rows good.ascends good.count q e).1 (j, from_below c.items k i le j q e x stand))
        | equal x ↦ inr (from_here c.items k i le j q e x stand)
        | upper m f x ↦ inl ((has_item c.items c.rows good.ascends good.count q e).1 (m, from_above c.items k i le j m q e f x stand))
      ]

      to_look : (q e t : ℕ) → HasLook (map_of c) q e t ⊎ ((q ≡ i.production) × (e ≡ i.dot) × IsTrue (is_set bits t)) → (j : ℕ) × IsAt (insert c.items k i) j q e × IsTrue (is_set (row (insert c.rows k bits) j) t)
      to_look q e t (inr (x, y, s)) = (k, here q e x y, subst (λ l. IsTrue (is_set l t)) (sym (got_here c.rows k bits le' k [] refl)) s)
      to_look q e t (inl h) =
          let (j, stand, s) = (has_look c.items c.rows good.ascends good.count q e t).0 h in
          elim (cases_lt j k) [
            | inl lt ↦ (j, to_new_below c.items k i le j q e lt stand, subst (λ l. IsTrue (is_set l t)) (sym (got_below c.rows k bits le' j [] lt)) s)
            | inr ge ↦ (j + 1, to_new_above c.items k i le j q e ge stand, subst (λ l. IsTrue (is_set l t)) (sym (got_above c.rows k bits le' (j + 1) j [] refl ge)) s)
          ]

      back_look : (q e t : ℕ) → (j : ℕ) × IsAt (insert c.items k i) j q e × IsTrue (is_set (row (insert c.rows k bits) j) t) → HasLook (map_of c) q e t ⊎ ((q ≡ i.production) × (e ≡ i.dot) × IsTrue (is_set bits t))
      back_look q e t (j, stand, s) = elim (inserted k j) [
        | lower x ↦ inl ((has_look c.items c.rows good.ascends good.count q e t).1 (j, from_below c.items k i le j q e x stand, subst (λ l. IsTrue (is_set l t)) (got_below c.rows k bits le' j [] x) s))
        | equal x ↦ (let f = from_here c.items k i le j q e x stand in inr (f.0, f.1, subst (λ l. IsTrue (is_set l t)) (got_here c.rows k bits le' j [] x) s))
        | upper m f x ↦ inl ((has_look c.items c.rows good.ascends good.count q e t).1 (m, from_above c.items k i le j m q e f x stand, subst (λ l. IsTrue (is_set l t)) (got_above c.rows k bits le' j m [] f x) s))
      ]

-- an item that is there
module _ (c : Core) (k : ℕ) (i : Item) (bits : List Bool) (tokens : ℕ) (good : IsCoreOf tokens c) (lt : k < length c.items) (wide : length bits ≡ tokens)
    (here : IsAt c.items k i.production i.dot) where
  lt' : k < length c.rows
  lt' = let n = good.count in omega (arith, n, lt)

  abbrev old_row : List Bool
  old_row = row c.rows k

  abbrev rows : List (List Bool)
  rows = set c.rows k (join old_row bits)

  same_width : length old_row ≡ length bits
  same_width = good.width k lt' ∙ sym wide

  row_there : (j : ℕ) → (j ≡ k → ⊥) → row rows j ≡ row c.rows j
  row_there j ne = get_or-set_other c.rows k j (join old_row bits) [] ne

  row_here : row rows k ≡ join old_row bits
  row_here = get_or-set_same c.rows k (join old_row bits) [] lt'

  pub joined_core : length (join old_row bits) ≡ length old_row → IsCoreOf tokens (record { items = c.items; rows = set c.rows k (join (row c.rows k) bits) })
  joined_core n = record {
    ascends = good.ascends;
    count = length-set c.rows k (join old_row bits) ∙ good.count;
    width = λ j l. elim (cases_eq j k) [
      | inl e ↦ ap (λ x. length (row rows x)) e ∙ ap length row_here ∙ n ∙ good.width k lt'
      | inr ne ↦ ap length (row_there j ne) ∙ good.width j (let m = length-set c.rows k (join old_row bits) in omega (arith, l, m))
    ];
  }

  pub joined_adds : length (join old_row bits) ≡ length old_row → Adds (map_of c) i.production i.dot bits (map_of (record { items = c.items; rows = set c.rows k (join (row c.rows k) bits) }))
  joined_adds n = record {
    items = λ q e. (
      λ h. (has_item c.items rows good.ascends (joined_core n).count q e).1 (elim h [ inl x ↦ (has_item c.items c.rows good.ascends good.count q e).0 x | inr x ↦ (k, here_as q e x.0 x.1) ]),
      λ h. inl ((has_item c.items c.rows good.ascends good.count q e).1 ((has_item c.items rows good.ascends (joined_core n).count q e).0 h)),
    );
    looks = λ q e t. (
      λ h. (has_look c.items rows good.ascends (joined_core n).count q e t).1 (to q e t h),
      λ h. back q e t ((has_look c.items rows good.ascends (joined_core n).count q e t).0 h),
    );
  }
    where
      here_as : (q e : ℕ) → q ≡ i.production → e ≡ i.dot → IsAt c.items k q e
      here_as q e x y = subst₂ (λ r s. IsAt c.items k r s) (sym x) (sym y) here

      to : (q e t : ℕ) → HasLook (map_of c) q e t ⊎ ((q ≡ i.production) × (e ≡ i.dot) × IsTrue (is_set bits t)) → (j : ℕ) × IsAt c.items j q e × IsTrue (is_set (row rows j) t)
      to q e t (inr (x, y, s)) = (k, here_as q e x y, subst (λ l. IsTrue (is_set l t)) (sym row_here) ((joined old_row bits t same_width).1 (inr s)))
      to q e t (inl h) =
          let (j, stand, s) = (has_look c.items c.rows good.ascends good.count q e t).0 h in
          elim (cases_eq j k) [
            | inl f ↦ (k, subst (λ m. IsAt c.items m q e) f stand, subst (λ l. IsTrue (is_set l t)) (sym row_here) ((joined old_row bits t same_width).1 (inl (subst (λ m. IsTrue (is_set (row c.rows m) t)) f s))))
            | inr ne ↦ (j, stand, subst (λ l. IsTrue (is_set l t)) (sym (row_there j ne)) s)
          ]

      keys : (q e : ℕ) → IsAt c.items k q e → (q ≡ i.production) × (e ≡ i.dot)
      keys q e stand = (
        sym stand.production ∙ ap (λ (x : Item). x.production) (get_or_default c.items k (record { production = q; dot = e }) (record { production = i.production; dot = i.dot }) lt) ∙ here.production,
        sym stand.dot ∙ ap (λ (x : Item). x.dot) (get_or_default c.items k (record { production = q; dot = e }) (record { production = i.production; dot = i.dot }) lt) ∙ here.dot,
      )

      back : (q e t : ℕ) → (j : ℕ) × IsAt c.items j q e × IsTrue (is_set (row rows j) t) → HasLook (map_of c) q e t ⊎ ((q ≡ i.production) × (e ≡ i.dot) × IsTrue (is_set bits t))
      back q e t (j, stand, s) = elim (cases_eq j k) [
        | inl f ↦ (let s' = subst (λ l. IsTrue (is_set l t)) (ap (row rows) f ∙ row_here) s in let stand' = subst (λ m. IsAt c.items m q e) f stand in
            elim ((joined old_row bits t same_width).0 s') [ inl x ↦ inl ((has_look c.items c.rows good.ascends good.count q e t).1 (k, stand', x)) | inr y ↦ (let f' = keys q e stand' in inr (f'.0, f'.1, y)) ])
        | inr ne ↦ inl ((has_look c.items c.rows good.ascends good.count q e t).1 (j, stand, subst (λ l. IsTrue (is_set l t)) (row_there j ne) s))
      ]
