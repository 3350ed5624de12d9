-- Item sets as lists.
use Rattle.std.proofs.Common.{◌≡◌, ℕ, zero, suc, ◌<◌, ◌⊎◌, inl, inr, ◌↔◌, Bool, true, false, ◌&&◌, cond, List, [], ◌∷◌, length, map, get_or, Some, nat_eq, slice_get, refl, sym, ap, ap₂, ◌∙◌, subst, subst₂, arith, eqb-true}
use Rattle.std.specs.Prelude.{AllPairs}
use Rattle.std.proofs.lemmas.Bool.{cases_eq, cases_lt}
use Rattle.std.proofs.lemmas.List.{get_or-map, length-map, ext_get_or}
use Rattle.cfg_theory.specs.Grammar.{Grammar}
use Rattle.lr_theory.specs.Itemset.{Entry, ItemSet, ItemBefore, entry_at, HasItem, HasLook, SameItems, SameLooks, FitsGrammar}
use Rattle.lr_theory.specs.ItemLists.{Item, Precedes, Ascends, IsAt, Stands, set_of, ItemsStandOnce, ItemSetsAreOne}
use Rattle.lr_theory.proofs.Literal.{some_same}

never : false ≡ true → ⊥
never e = cc

at_next : (i : Item) (items : List Item) (k p d : ℕ) → IsAt items k p d → IsAt (i ∷ items) (suc k) p d
at_next i items k p d h = record { within = (let lt = h.within in omega (arith, lt)); production = h.production; dot = h.dot }

at_rest : (i : Item) (items : List Item) (k p d : ℕ) → IsAt (i ∷ items) (suc k) p d → IsAt items k p d
at_rest i items k p d h = record { within = (let lt = h.within in omega (arith, lt)); production = h.production; dot = h.dot }

-- the key test
keys_same : (i : Item) (p d : ℕ) → (nat_eq i.production p && nat_eq i.dot d) ≡ true → (i.production ≡ p) × (i.dot ≡ d)
keys_same i p d e = (eqb-true i.production p (left (nat_eq i.production p) (nat_eq i.dot d) e), eqb-true i.dot d (right (nat_eq i.production p) (nat_eq i.dot d) e))
  where
    left : (a b : Bool) → (a && b) ≡ true → a ≡ true
    left true b e = refl
    left false b e = e

    right : (a b : Bool) → (a && b) ≡ true → b ≡ true
    right true b e = e
    right false b e = absurd (never e)

keys_match : (i : Item) (p d : ℕ) → i.production ≡ p → i.dot ≡ d → (nat_eq i.production p && nat_eq i.dot d) ≡ true
keys_match i p d e f = grind arith

pub tail : (i : Item) (items : List Item) → Ascends (i ∷ items) → Ascends items
tail i items a = λ j k d lt within. a (suc j) (suc k) d (omega (arith, lt)) (omega (arith, within))

-- what the map has at an item stands in the row beside it
abbrev pub Found : List Item → List (List Bool) → ℕ → ℕ → List Bool → Type 0
Found items rows p d l = (k : ℕ) × IsAt items k p d × (get_or rows k [] ≡ l)

found_by : (i : Item) (items : List Item) (r : List Bool) (rows : List (List Bool)) (p d : ℕ) (l : List Bool) → (entry_at (set_of items rows) p d ≡ Some l → Found items rows p d l) →
    (b : Bool) → (nat_eq i.production p && nat_eq i.dot d) ≡ b → cond b (Some r) (entry_at (set_of items rows) p d) ≡ Some l → Found (i ∷ items) (r ∷ rows) p d l
found_by i items r rows p d l rest true q h = let s = keys_same i p d q in (zero, record { within = omega arith; production = s.0; dot = s.1 }, cc)
found_by i items r rows p d l rest false q h = let (k, x, y) = rest h in (suc k, at_next i items k p d x, y)

pub found : (items : List Item) (rows : List (List Bool)) (p d : ℕ) (l : List Bool) → length rows ≡ length items → entry_at (set_of items rows) p d ≡ Some l → Found items rows p d l
unfolding entry_at
found [] rows p d l n e = cc
found (i ∷ items) [] p d l n e = absurd (omega (arith, n))
found (i ∷ items) (r ∷ rows) p d l n e = found_by i items r rows p d l (found items rows p d l (omega (arith, n))) (nat_eq i.production p && nat_eq i.dot d) refl e

-- an item that stands further on is another one
later_differs : (i : Item) (items : List Item) (k p d : ℕ) → Ascends (i ∷ items) → IsAt items k p d → (b : Bool) → (nat_eq i.production p && nat_eq i.dot d) ≡ b → b ≡ false
later_differs i items k p d a h false q = refl
later_differs i items k p d a h true q = absurd (apart (a zero (suc k) (record { production = p; dot = d }) (omega arith) (let lt = h.within in omega (arith, lt))))
  where
    apart : Precedes i (get_or items k (record { production = p; dot = d })) → ⊥
    apart (inl lt) = let s = keys_same i p d q in let x = s.0 in let y = h.production in omega (arith, lt, x, y)
    apart (inr e) = let s = keys_same i p d q in let x = s.1 in let y = h.dot in let lt = e.1 in omega (arith, lt, x, y)

-- and each item stands in it once
pub stands : (items : List Item) (rows : List (List Bool)) (k p d : ℕ) → Ascends items → length rows ≡ length items → IsAt items k p d → entry_at (set_of items rows) p d ≡ Some (get_or rows k [])
unfolding entry_at
stands [] rows k p d a n h = let lt = h.within in absurd (omega (arith, lt))
stands (i ∷ items) [] k p d a n h = absurd (omega (arith, n))
stands (i ∷ items) (r ∷ rows) zero p d a n h = ap (λ b. cond b (Some r) (entry_at (set_of items rows) p d)) (keys_match i p d h.production h.dot)
stands (i ∷ items) (r ∷ rows) (suc k) p d a n h =
    ap (λ b. cond b (Some r) (entry_at (set_of items rows) p d)) (later_differs i items k p d a (at_rest i items k p d h) (nat_eq i.production p && nat_eq i.dot d) refl) ∙
    stands items rows k p d (tail i items a) (omega (arith, n)) (at_rest i items k p d h)

module _ (items : List Item) (rows : List (List Bool)) (a : Ascends items) (n : length rows ≡ length items) where
  pub has_item : (p d : ℕ) → HasItem (set_of items rows) p d ↔ Stands items p d
  has_item p d = (λ h. (let f = found items rows p d h.lookaheads n h.at in (f.0, f.1)), λ h. record { lookaheads = get_or rows h.0 []; at = stands items rows h.0 p d a n h.1 })

  pub has_look : (p d t : ℕ) → HasLook (set_of items rows) p d t ↔ ((k : ℕ) × IsAt items k p d × (slice_get (get_or rows k []) t ≡ Some true))
  has_look p d t = (
    λ h. (let f = found items rows p d h.lookaheads n h.at in (f.0, f.1, subst (λ l. slice_get l t ≡ Some true) (sym f.2) h.set)),
    λ h. record { lookaheads = get_or rows h.0 []; at = stands items rows h.0 p d a n h.1; set = h.2 },
  )

-- an item stands at one index
pub one_index : (items : List Item) → Ascends items → (j k p d : ℕ) → IsAt items j p d → IsAt items k p d → j ≡ k
one_index items a j k p d x y = elim (cases_lt j k) [ inl lt ↦ absurd (two j k lt x y) | inr ge ↦ elim (cases_eq j k) [ inl e ↦ e | inr ne ↦ absurd (two k j (omega (arith, ge, ne)) y x) ] ]
  where
    apart : (i j : Item) → Precedes i j → i.production ≡ j.production → i.dot ≡ j.dot → ⊥
    apart i j (inl lt) e f = omega (arith, lt, e)
    apart i j (inr q) e f = let lt = q.1 in omega (arith, lt, f)

    two : (j k : ℕ) → j < k → IsAt items j p d → IsAt items k p d → ⊥
    two j k lt x y =
        let u : Item = record { production = p; dot = d } in
        apart (get_or items j u) (get_or items k u) (a j k u lt y.within) (x.production ∙ sym y.production) (x.dot ∙ sym y.dot)

abbrev SameHeld : List Item → List Item → Type 0
SameHeld xs ys = (p d : ℕ) → Stands xs p d ↔ Stands ys p d

first_at : (i : Item) (items : List Item) → IsAt (i ∷ items) zero i.production i.dot
first_at i items = record { within = omega arith; production = refl; dot = refl }

same_item : (i j : Item) → i.production ≡ j.production → i.dot ≡ j.dot → i ≡ j
same_item i j e f = ap₂ (λ (p d : ℕ). record { production = p; dot = d }) e f

before_first : (i : Item) (items : List Item) → Ascends (i ∷ items) → (k p d : ℕ) → IsAt items k p d → (i.production < p) ⊎ ((i.production ≡ p) × (i.dot < d))
before_first i items a k p d h =
    let b = a zero (suc k) (record { production = p; dot = d }) (omega arith) (let lt = h.within in omega (arith, lt)) in
    let x = h.production in
    let y = h.dot in
    elim b [ inl lt ↦ inl (omega (arith, lt, x)) | inr q ↦ inr (q.0 ∙ x, (let lt = q.1 in omega (arith, lt, y))) ]

heads_same : (i j : Item) (xs ys : List Item) → Ascends (i ∷ xs) → Ascends (j ∷ ys) → SameHeld (i ∷ xs) (j ∷ ys) → i ≡ j
heads_same i j xs ys a b h = by ((h i.production i.dot).0 (zero, first_at i xs)) ((h j.production j.dot).1 (zero, first_at j ys))
  where
    clash : (i.production < j.production) ⊎ ((i.production ≡ j.production) × (i.dot < j.dot)) → (j.production < i.production) ⊎ ((j.production ≡ i.production) × (j.dot < i.dot)) → ⊥
    clash (inl x) (inl y) = omega (arith, x, y)
    clash (inl x) (inr y) = let e = y.0 in omega (arith, x, e)
    clash (inr x) (inl y) = let e = x.0 in omega (arith, y, e)
    clash (inr x) (inr y) = let e = x.1 in let f = y.1 in omega (arith, e, f)

    by : Stands (j ∷ ys) i.production i.dot → Stands (i ∷ xs) j.production j.dot → i ≡ j
    by (zero, x) other = same_item i j (sym x.production) (sym x.dot)
    by (suc k, x) (zero, y) = same_item i j y.production y.dot
    by (suc k, x) (suc m, y) = absurd (clash (before_first i xs a m j.production j.dot (at_rest i xs m j.production j.dot y)) (before_first j ys b k i.production i.dot (at_rest j ys k i.production i.dot x)))

tails_held : (i : Item) (xs ys : List Item) → Ascends (i ∷ xs) → ((p d : ℕ) → Stands (i ∷ xs) p d → Stands (i ∷ ys) p d) → (p d : ℕ) → Stands xs p d → Stands ys p d
tails_held i xs ys a h p d (k, x) = by (h p d (suc k, at_next i xs k p d x))
  where
    zero_later : (k : ℕ) → zero ≡ suc k → ⊥
    zero_later k e = omega (arith, e)

    by : Stands (i ∷ ys) p d → Stands ys p d
    by (zero, y) = absurd (zero_later k (one_index (i ∷ xs) a zero (suc k) p d (record { within = omega arith; production = y.production; dot = y.dot }) (at_next i xs k p d x)))
    by (suc m, y) = (m, at_rest i ys m p d y)

-- ascending lists of the same items are one
pub one_list : (xs ys : List Item) → Ascends xs → Ascends ys → ((p d : ℕ) → Stands xs p d ↔ Stands ys p d) → xs ≡ ys
one_list [] [] a b h = refl
one_list [] (j ∷ ys) a b h = absurd (none ((h j.production j.dot).1 (zero, first_at j ys)))
  where
    none : Stands [] j.production j.dot → ⊥
    none (k, x) = let lt = x.within in omega (arith, lt)
one_list (i ∷ xs) [] a b h = absurd (none ((h i.production i.dot).0 (zero, first_at i xs)))
  where
    none : Stands [] i.production i.dot → ⊥
    none (k, x) = let lt = x.within in omega (arith, lt)
one_list (i ∷ xs) (j ∷ ys) a b h =
    let e : i ≡ j = heads_same i j xs ys a b h in
    let b' : Ascends (i ∷ ys) = subst (λ z. Ascends (z ∷ ys)) (sym e) b in
    let h' : SameHeld (i ∷ xs) (i ∷ ys) = subst (λ z. SameHeld (i ∷ xs) (z ∷ ys)) (sym e) h in
    ap₂ (λ (z : Item) (zs : List Item). z ∷ zs) e (one_list xs ys (tail i xs a) (tail i ys b') (λ p d. (tails_held i xs ys a (λ q f. (h' q f).0) p d, tails_held i ys xs b' (λ q f. (h' q f).1) p d)))

-- the entries of a set have the items of its list
pub record IsEntryOf (items : List Item) (rows : List (List Bool)) (j : ℕ) (e : Entry) (i : Item) : Type 0 where
  pub within : j < length items
  pub production : (get_or (set_of items rows) j e).production ≡ (get_or items j i).production
  pub dot : (get_or (set_of items rows) j e).dot ≡ (get_or items j i).dot

entry_of : (items : List Item) (rows : List (List Bool)) (j : ℕ) (e : Entry) (i : Item) → j < length (set_of items rows) → IsEntryOf items rows j e i
entry_of [] rows j e i lt = absurd (omega (arith, lt))
entry_of (x ∷ items) [] j e i lt = absurd (omega (arith, lt))
entry_of (x ∷ items) (r ∷ rows) zero e i lt = record { within = omega arith; production = refl; dot = refl }
entry_of (x ∷ items) (r ∷ rows) (suc j) e i lt =
    let h = entry_of items rows j e i (omega (arith, lt)) in
    record { within = (let w = h.within in omega (arith, w)); production = h.production; dot = h.dot }

pub ordered : (items : List Item) (rows : List (List Bool)) → Ascends items → AllPairs ItemBefore (set_of items rows)
ordered items rows a = λ j k e lt within.
    (let i : Item = record { production = e.production; dot = e.dot } in
    let y = entry_of items rows k e i within in
    let x = entry_of items rows j e i (omega (arith, lt, within)) in
    subst₂ (λ p q. (p < q) ⊎ ((p ≡ q) × ((get_or (set_of items rows) j e).dot < (get_or (set_of items rows) k e).dot))) (sym x.production) (sym y.production)
    (subst₂ (λ c d. ((get_or items j i).production < (get_or items k i).production) ⊎ (((get_or items j i).production ≡ (get_or items k i).production) × (c < d))) (sym x.dot) (sym y.dot) (a j k i lt y.within)))

pub items_stand_once : ItemsStandOnce
items_stand_once = record {
  has_item = has_item;
  has_look = has_look;
  one_index = one_index;
  same_lists = one_list;
  ordered = ordered;
}

-- ---- any set in order is one of items with rows

abbrev pub item_of : Entry → Item
item_of e = record { production = e.production; dot = e.dot }

abbrev pub items_of : ItemSet → List Item
items_of s = map item_of s

abbrev pub rows_of : ItemSet → List (List Bool)
rows_of s = map (λ e. e.lookaheads) s

pub put_together : (s : ItemSet) → set_of (items_of s) (rows_of s) ≡ s
put_together [] = refl
put_together (e ∷ s) = ap (λ t. e ∷ t) (put_together s)

pub ascending : (s : ItemSet) → AllPairs ItemBefore s → Ascends (items_of s)
ascending s h = λ j k d lt within.
    (let m = length-map s item_of in
    let e : Entry = record { production = 0; dot = 0; lookaheads = [] } in
    let y = get_or-map item_of s k e d (omega (arith, within, m)) in
    let x = get_or-map item_of s j e d (omega (arith, lt, within, m)) in
    subst₂ Precedes (sym x) (sym y) (h j k e lt (omega (arith, within, m))))

same_bits : (b c : List Bool) → length b ≡ length c → ((t : ℕ) → slice_get b t ≡ Some true → slice_get c t ≡ Some true) → ((t : ℕ) → slice_get c t ≡ Some true → slice_get b t ≡ Some true) → b ≡ c
same_bits [] [] n h k = refl
same_bits [] (y ∷ c) n h k = absurd (omega (arith, n))
same_bits (x ∷ b) [] n h k = absurd (omega (arith, n))
same_bits (x ∷ b) (y ∷ c) n h k = ap₂ (λ (z : Bool) (zs : List Bool). z ∷ zs) (heads x y (h zero) (k zero)) (same_bits b c (omega (arith, n)) (λ t. h (suc t)) (λ t. k (suc t)))
  where
    heads : (x y : Bool) → (Some x ≡ Some true → Some y ≡ Some true) → (Some y ≡ Some true → Some x ≡ Some true) → x ≡ y
    heads true y h k = sym (some_same y true (h refl))
    heads false true h k = some_same false true (k refl)
    heads false false h k = refl

module _ (G : Grammar) (s u : ItemSet) (fs : FitsGrammar G s) (fu : FitsGrammar G u) (items : SameItems (HasItem s) (HasItem u)) (looks : SameLooks (HasLook s) (HasLook u)) where
  rows_count : (v : ItemSet) → length (rows_of v) ≡ length (items_of v)
  rows_count v = length-map v (λ e. e.lookaheads) ∙ sym (length-map v item_of)

  held : (v : ItemSet) → FitsGrammar G v → (p d : ℕ) → HasItem v p d ↔ Stands (items_of v) p d
  held v f p d = subst (λ w. HasItem w p d ↔ Stands (items_of v) p d) (put_together v) (has_item (items_of v) (rows_of v) (ascending v f.ordered) (rows_count v) p d)

  one_items : items_of s ≡ items_of u
  one_items = one_list (items_of s) (items_of u) (ascending s fs.ordered) (ascending u fu.ordered) (λ p d. (λ h. (held u fu p d).0 ((items p d).0 ((held s fs p d).1 h)), λ h. (held s fs p d).0 ((items p d).1 ((held u fu p d).1 h))))

  -- what a set has at the item of an index
  entry_here : (v : ItemSet) → FitsGrammar G v → (k p d : ℕ) → IsAt (items_of v) k p d → entry_at v p d ≡ Some (get_or (rows_of v) k [])
  entry_here v f k p d at = subst (λ w. entry_at w p d ≡ Some (get_or (rows_of v) k [])) (put_together v) (stands (items_of v) (rows_of v) k p d (ascending v f.ordered) (rows_count v) at)

  look_on : (v w : ItemSet) (p d : ℕ) (b c : List Bool) → entry_at v p d ≡ Some b → entry_at w p d ≡ Some c → ((t : ℕ) → HasLook v p d t → HasLook w p d t) → (t : ℕ) → slice_get b t ≡ Some true → slice_get c t ≡ Some true
  look_on v w p d b c e f h t set =
      let look = h t (record { lookaheads = b; at = e; set = set }) in
      subst (λ l. slice_get l t ≡ Some true) (some_same look.lookaheads c (sym look.at ∙ f)) look.set

  one_row : (k : ℕ) → k < length (items_of s) → get_or (rows_of s) k [] ≡ get_or (rows_of u) k []
  one_row k lt =
      let i = get_or (items_of s) k (record { production = 0; dot = 0 }) in
      let at : IsAt (items_of s) k i.production i.dot = at_own (items_of s) k lt in
      let e = entry_here s fs k i.production i.dot at in
      let f = entry_here u fu k i.production i.dot (subst (λ l. IsAt l k i.production i.dot) one_items at) in
      same_bits (get_or (rows_of s) k []) (get_or (rows_of u) k []) (fs.flags i.production i.dot (get_or (rows_of s) k []) e ∙ sym (fu.flags i.production i.dot (get_or (rows_of u) k []) f))
      (look_on s u i.production i.dot (get_or (rows_of s) k []) (get_or (rows_of u) k []) e f (λ t. (looks i.production i.dot t).0)) (look_on u s i.production i.dot (get_or (rows_of u) k []) (get_or (rows_of s) k []) f e (λ t. (looks i.production i.dot t).1))
    where
      any_default : (xs : List Item) (i : ℕ) (x y : Item) → i < length xs → get_or xs i x ≡ get_or xs i y
      any_default [] i x y lt = absurd (omega (arith, lt))
      any_default (z ∷ xs) zero x y lt = refl
      any_default (z ∷ xs) (suc i) x y lt = any_default xs i x y (omega (arith, lt))

      at_own : (xs : List Item) (k : ℕ) → k < length xs → IsAt xs k (get_or xs k (record { production = 0; dot = 0 })).production (get_or xs k (record { production = 0; dot = 0 })).dot
      at_own xs k lt =
          let i : Item = get_or xs k (record { production = 0; dot = 0 }) in
          let e = any_default xs k (record { production = i.production; dot = i.dot }) (record { production = 0; dot = 0 }) lt in
          record { within = lt; production = ap (λ (x : Item). x.production) e; dot = ap (λ (x : Item). x.dot) e }

  one_rows : rows_of s ≡ rows_of u
  one_rows =
      let n = rows_count s in
      let m = rows_count u in
      let c = ap length one_items in
      ext_get_or [] (rows_of s) (rows_of u) (n ∙ c ∙ sym m) (λ k lt. one_row k (omega (arith, lt, n)))

  pub one_set : s ≡ u
  one_set = sym (put_together s) ∙ ap₂ (λ (i : List Item) (r : List (List Bool)). set_of i r) one_items one_rows ∙ put_together u

pub item_sets_are_one : ItemSetsAreOne
item_sets_are_one = record { one = one_set }
