-- Steps on items in order.
use Rattle.std.proofs.Common.{◌≡◌, ℕ, ◌+◌, ◌<◌, ◌≤◌, inl, inr, Bool, List, [], ◌∷◌, ◌++◌, length, get_or, map, take, drop, sym, ap, ap₂, ◌∙◌, subst, arith}
use Rattle.std.specs.List.{insert}
use Rattle.std.proofs.lemmas.Bool.{cases_eq}
use Rattle.std.proofs.lemmas.List.{get_or-map, length-map, get_or_default, map-append, take-map, drop-map, take_all, drop_all}
use Rattle.vob.specs.Packed.{Contents}
use Rattle.lr_theory.specs.Itemset.{HasItem}
use Rattle.state_table.specs.Meeting.{rows_in}
use Rattle.state_table.specs.Adding.{Adds}
use Rattle.state_table.specs.ItemRows.{Item, IsAt, ItemBefore, Ascends, Core, IsCoreOf, map_of, BelongsAt}
use Rattle.state_table.specs.CoreViews.{item_of, items_of}
use Rattle.state_table.specs.declared.cores.CoreItem.{CoreItem}
use Rattle.state_table.proofs.Adding.{before_trans, not_before, inserted_core, inserted_adds}
use Rattle.state_table.proofs.ItemSets.{has_item}

pub map_insert : {X Y : Type 0} (f : X → Y) (xs : List X) (k : ℕ) (x : X) → map f (insert xs k x) ≡ insert (map f xs) k (f x)
map_insert f xs k x = map-append f (take k xs) (x ∷ drop k xs) ∙ ap₂ (λ a b. a ++ f x ∷ b) (sym (take-map f k xs)) (sym (drop-map f k xs))

-- what an index reads, of a list that is mapped
pub map_at : {X Y : Type 0} (f : X → Y) (xs : List X) (k : ℕ) (x : X) (d : Y) → k < length xs → x ≡ get_or xs k x → get_or (map f xs) k d ≡ f x
map_at f xs k x d lt e = get_or-map f xs k x d lt ∙ ap f (sym e)

pub row_at : (vs : List Contents) (k : ℕ) (x : Contents) → k < length vs → x ≡ get_or vs k x → get_or (rows_in vs) k [] ≡ x.bits
row_at vs k x lt e = map_at (λ (v : Contents). v.bits) vs k x [] lt e

module _ (items : List Item) (i : Item) (a : Ascends items) where
  -- an item before i, and all before it
  pub below_last : (last : ℕ) (d' : Item) → last < length items → ItemBefore (get_or items last d') i → (k : ℕ) (d : Item) → k < last + 1 → ItemBefore (get_or items k d) i
  below_last last d' within b k d lt = elim (cases_eq k last) [
    | inl e ↦ subst (λ x. ItemBefore x i) (get_or_default items last d' d within ∙ ap (λ n. get_or items n d) (sym e)) b
    | inr ne ↦ before_trans (get_or items k d) (get_or items last d) i (a k last d (omega (arith, lt, ne)) within) (subst (λ x. ItemBefore x i) (get_or_default items last d' d within) b)
  ]

  -- the items from where i belongs on come after it
  pub all_after : (k : ℕ) → ((j : ℕ) (d : Item) → k ≤ j → j < length items → ItemBefore (get_or items j d) i → ⊥) → ((d : Item) → k < length items → get_or items k d ≡ i → ⊥) →
      (j : ℕ) (d : Item) → k ≤ j → j < length items → ItemBefore i (get_or items j d)
  all_after k above other j d ge lt = elim (cases_eq j k) [ inl e ↦ subst (λ n. ItemBefore i (get_or items n d)) (sym e) (at_k (omega (arith, e, lt))) | inr ne ↦ before_trans i (get_or items k d) (get_or items j d) (at_k (omega (arith, ge, lt))) (a k j d (omega (arith, ge, ne)) lt) ]
    where
      at_k : k < length items → ItemBefore i (get_or items k d)
      at_k l = not_before (get_or items k d) i (above k d (omega arith) l) (other d l)

-- one item more isn't before i
pub none_more : (items : List Item) (i : Item) (n : ℕ) → ((k : ℕ) (d : Item) → length items ≤ k + n → k < length items → ItemBefore (get_or items k d) i → ⊥) →
    (last : ℕ) (d' : Item) → last + 1 + n ≡ length items → (ItemBefore (get_or items last d') i → ⊥) → (k : ℕ) (d : Item) → length items ≤ k + (n + 1) → k < length items → ItemBefore (get_or items k d) i → ⊥
none_more items i n h last d' e b k d le lt x = elim (cases_eq k last) [
  | inl q ↦ b (subst (λ y. ItemBefore y i) (ap (λ m. get_or items m d) q ∙ get_or_default items last d d' (omega (arith, e))) x)
  | inr ne ↦ h k d (omega (arith, le, e, ne)) lt x
]

-- an item that is put where it belongs, with its lookaheads, in a core that doesn't have it
module _ {X : Type 0} (f : X → Item) (rows : X → List Bool) (xs : List X) (k : ℕ) (x : X) (tokens : ℕ) (good : IsCoreOf tokens (record { items = map f xs; rows = map rows xs })) (at : BelongsAt (map f xs) (f x) k)
    (fresh : HasItem (map_of (record { items = map f xs; rows = map rows xs })) (f x).production (f x).dot → ⊥) (wide : length (rows x) ≡ tokens) where
  abbrev old : Core
  old = record { items = map f xs; rows = map rows xs }

  other : (d : Item) → k < length old.items → get_or old.items k d ≡ f x → ⊥
  other d lt e =
      let same = get_or_default old.items k (record { production = (f x).production; dot = (f x).dot }) d lt ∙ e in
      let there : IsAt old.items k (f x).production (f x).dot = record { within = lt; production = ap (λ (i : Item). i.production) same; dot = ap (λ (i : Item). i.dot) same } in
      fresh ((has_item old.items old.rows good.ascends good.count (f x).production (f x).dot).1 (k, there))

  high : (j : ℕ) (d : Item) → k ≤ j → j < length old.items → ItemBefore (f x) (get_or old.items j d)
  high = all_after old.items (f x) good.ascends k at.above other

  made : ◌≡◌ {A = Core} (record { items = insert old.items k (f x); rows = insert old.rows k (rows x) }) (record { items = map f (insert xs k x); rows = map rows (insert xs k x) })
  made = ap₂ (λ (u : List Item) (r : List (List Bool)). record { items = u; rows = r }) (sym (map_insert f xs k x)) (sym (map_insert rows xs k x))

  pub put_adds : Adds (map_of old) (f x).production (f x).dot (rows x) (map_of (record { items = map f (insert xs k x); rows = map rows (insert xs k x) }))
  put_adds = subst (λ (c : Core). Adds (map_of old) (f x).production (f x).dot (rows x) (map_of c)) made (inserted_adds old k (f x) (rows x) tokens good at.within wide at.below high)

  pub put_core : IsCoreOf tokens (record { items = map f (insert xs k x); rows = map rows (insert xs k x) })
  put_core = subst (λ (c : Core). IsCoreOf tokens c) made (inserted_core old k (f x) (rows x) tokens good at.within wide at.below high)

-- the item and the lookaheads that a loop reads of a core
pub item_at : {S : Type 0} (number : S → ℕ) (items : List (CoreItem S)) (k : ℕ) (x : CoreItem S) → k < length items → x ≡ get_or items k x → IsAt (items_of number items) k (number x.pidx.0) (number x.dot.0)
item_at number items k x lt is =
    let e = map_at (item_of number) items k x (record { production = number x.pidx.0; dot = number x.dot.0 }) lt is in
    record {
      within = (let n = length-map items (item_of number) in omega (arith, n, lt));
      production = ap (λ (i : Item). i.production) e;
      dot = ap (λ (i : Item). i.dot) e;
    }

pub production_below : {S : Type 0} (number : S → ℕ) (items : List (CoreItem S)) (k n : ℕ) (x : CoreItem S) → k < length items → x ≡ get_or items k x → ((k : ℕ) (d : Item) → k < length (items_of number items) → (get_or (items_of number items) k d).production < n) → number x.pidx.0 < n
production_below number items k n x lt is h =
    let e = map_at (item_of number) items k x (item_of number x) lt is in
    subst (λ (i : Item). i.production < n) e (h k (item_of number x) (let m = length-map items (item_of number) in omega (arith, m, lt)))

-- what is inserted at the end is last
pub insert_last : {X : Type 0} (xs : List X) (i : ℕ) (x : X) → length xs ≤ i → insert xs i x ≡ xs ++ x ∷ []
insert_last xs i x le = ap₂ (λ l r. l ++ x ∷ r) (take_all i xs le) (drop_all i xs le)

-- mapped lists that differ at an index
pub differ_at : {X Y Z : Type 0} (f : X → Z) (h : Y → Z) (xs : List X) (ys : List Y) (i : ℕ) (x : X) (y : Y) → i < length xs → i < length ys → x ≡ get_or xs i x → y ≡ get_or ys i y → (f x ≡ h y → ⊥) → map f xs ≡ map h ys → ⊥
differ_at f h xs ys i x y li lj ex ey ne e = ne (ap f ex ∙ sym (get_or-map f xs i x (f x) li) ∙ ap (λ l. get_or l i (f x)) e ∙ get_or-map h ys i y (f x) lj ∙ ap h (sym ey))
