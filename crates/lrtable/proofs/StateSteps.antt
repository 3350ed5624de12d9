-- Steps of placing a set.
use Rattle.std.proofs.Common.{◌≡◌, ◌≢◌, ℕ, zero, suc, ◌+◌, ◌<◌, ◌≤◌, inl, inr, ◌↔◌, Bool, true, false, List, [], ◌∷◌, ◌++◌, length, get_or, set, map, refl, sym, ap, ap₂, ◌∙◌, subst, arith, add-one}
use Rattle.std.specs.Prelude.{IsTrue}
use Rattle.std.proofs.lemmas.Bool.{cases_eq, cases_lt}
use Rattle.std.proofs.lemmas.List.{get_or-map, length-map, map-set, map-append}
use Rattle.vob.specs.Packed.{Contents}
use Rattle.cfg_theory.specs.Grammar.{Sym}
use Rattle.vob.specs.Sets.{is_set, missing}
use Rattle.state_table.specs.Meeting.{row, rows_in, AreAlike, RowsFit}
use Rattle.std.proofs.Math.Decide.{ℕ_discrete}
use Rattle.std.proofs.lemmas.List.Elements.{Contains-get_or}
use Rattle.state_table.specs.ItemRows.{Item, Core, join_rows, LacksRows}
use Rattle.lrtable.specs.States.{Edge, StateValue, state_at, IsPut, IsLinked, grown_at, no_state, StaysApart, IsApartFrom, JoinsAt, JoinsNone, ListsCore}
use Rattle.vob.proofs.Bits.{join, joined, join_fills, set_same}

never : false ≡ true → ⊥
never e = cc

-- ---- rows

-- the first i rows joined
abbrev pub joined_to_place : ℕ → List (List Bool) → List (List Bool) → List (List Bool)
joined_to_place zero ls ms = ls
joined_to_place (suc i) [] ms = []
joined_to_place (suc i) (l ∷ ls) [] = l ∷ ls
joined_to_place (suc i) (l ∷ ls) (m ∷ ms) = join l m ∷ joined_to_place i ls ms

pub join_next : (i : ℕ) (ls ms : List (List Bool)) → i < length ms → length ms ≡ length ls → joined_to_place (suc i) ls ms ≡ set (joined_to_place i ls ms) i (join (row ls i) (row ms i))
join_next i [] ms lt e = absurd (omega (arith, lt, e))
join_next i (l ∷ ls) [] lt e = absurd (omega (arith, lt))
join_next zero (l ∷ ls) (m ∷ ms) lt e = refl
join_next (suc i) (l ∷ ls) (m ∷ ms) lt e = ap (λ r. join l m ∷ r) (join_next i ls ms (omega (arith, lt)) (omega (arith, e)))

pub row_not_yet : (i : ℕ) (ls ms : List (List Bool)) → i < length ms → length ms ≡ length ls → row (joined_to_place i ls ms) i ≡ row ls i
row_not_yet i [] ms lt e = absurd (omega (arith, lt, e))
row_not_yet i (l ∷ ls) [] lt e = absurd (omega (arith, lt))
row_not_yet zero (l ∷ ls) (m ∷ ms) lt e = refl
row_not_yet (suc i) (l ∷ ls) (m ∷ ms) lt e = row_not_yet i ls ms (omega (arith, lt)) (omega (arith, e))

pub all_joined : (i : ℕ) (ls ms : List (List Bool)) → length ms ≤ i → length ms ≡ length ls → joined_to_place i ls ms ≡ join_rows ls ms
all_joined zero [] ms le e = refl
all_joined zero (l ∷ ls) ms le e = absurd (omega (arith, le, e))
all_joined (suc i) [] ms le e = refl
all_joined (suc i) (l ∷ ls) [] le e = absurd (omega (arith, e))
all_joined (suc i) (l ∷ ls) (m ∷ ms) le e = ap (λ r. join l m ∷ r) (all_joined i ls ms (omega (arith, le)) (omega (arith, e)))

pub length_place : (i : ℕ) (ls ms : List (List Bool)) → length (joined_to_place i ls ms) ≡ length ls
length_place zero ls ms = refl
length_place (suc i) [] ms = refl
length_place (suc i) (l ∷ ls) [] = refl
length_place (suc i) (l ∷ ls) (m ∷ ms) = ap suc (length_place i ls ms)

-- a list that a join changes lacked something
pub lacked_one : (xs ys : List Bool) → length xs ≡ length ys → join xs ys ≢ xs → (t : ℕ) × IsTrue (is_set ys t) × (IsTrue (is_set xs t) → ⊥)
lacked_one [] [] e h = absurd (h refl)
lacked_one [] (y ∷ ys) e h = absurd (omega (arith, e))
lacked_one (x ∷ xs) [] e h = absurd (omega (arith, e))
lacked_one (true ∷ xs) (y ∷ ys) e h = let r = lacked_one xs ys (omega (arith, e)) (λ q. h (ap (λ l. true ∷ l) q)) in (suc r.0, r.1, r.2)
lacked_one (false ∷ xs) (true ∷ ys) e h = (zero, refl, λ q. never q)
lacked_one (false ∷ xs) (false ∷ ys) e h = let r = lacked_one xs ys (omega (arith, e)) (λ q. h (ap (λ l. false ∷ l) q)) in (suc r.0, r.1, r.2)

-- a list that a join leaves has all of the other
pub covered_one : (xs ys : List Bool) → length xs ≡ length ys → join xs ys ≡ xs → (t : ℕ) → IsTrue (is_set ys t) → IsTrue (is_set xs t)
covered_one xs ys e q t h = subst (λ l. IsTrue (is_set l t)) q ((joined xs ys t e).1 (inr h))

-- whether a join is told to change nothing
pub stays_same : (xs ys : List Bool) (changed : Bool) → length xs ≡ length ys → IsTrue changed ↔ (join xs ys ≢ xs) → changed ≡ false → join xs ys ≡ xs
stays_same xs ys changed e tells q = elim (join_fills xs ys e) [ inl s ↦ s | inr fewer ↦ absurd (never (sym q ∙ tells.1 (λ s. less s fewer))) ]
  where
    less : join xs ys ≡ xs → missing (join xs ys) < missing xs → ⊥
    less s fewer = let n = ap missing s in omega (arith, n, fewer)

-- ---- one row joined

module _ (items : List Contents) (new first : List (List Bool)) (i : ℕ) (rows : rows_in items ≡ joined_to_place i first new) (alike : AreAlike first new) (x y : Contents) (lt_new : i < length new) (at_x : x ≡ get_or items i x) (row_y : y.bits ≡ row new i) where
  lt_items : i < length items
  lt_items = let n = length-map items (λ v. v.bits) in let m = ap length rows in let k = length_place i first new in let c = alike.count in omega (arith, n, m, k, c, lt_new)

  row_x : x.bits ≡ row first i
  row_x = ap (λ (v : Contents). v.bits) at_x ∙ sym (get_or-map (λ (v : Contents). v.bits) items i x [] lt_items) ∙ ap (λ l. row l i) rows ∙ row_not_yet i first new lt_new alike.count

  pub one_width : length x.bits ≡ length y.bits
  one_width = let w = alike.width.1 i (let c = alike.count in omega (arith, c, lt_new)) in ap length row_x ∙ w.0 ∙ sym w.1 ∙ sym (ap length row_y)

  module _ (z : Contents) (changed : Bool) (made : z.bits ≡ join x.bits y.bits) (tells : IsTrue changed ↔ (z.bits ≢ x.bits)) where
    told : IsTrue changed ↔ (join x.bits y.bits ≢ x.bits)
    told = subst (λ l. IsTrue changed ↔ (l ≢ x.bits)) made tells

    rows_set_is : rows_in (set items i z) ≡ set (rows_in items) i z.bits
    rows_set_is = map-set (λ v. v.bits) items i z

    pub rows_next : rows_in (set items i z) ≡ joined_to_place (i + 1) first new
    rows_next =
        rows_set_is ∙ ap₂ (λ (l : List (List Bool)) (r : List Bool). set l i r) rows (made ∙ ap₂ (λ p q. join p q) row_x row_y) ∙
        sym (join_next i first new lt_new alike.count) ∙ ap (λ n. joined_to_place n first new) (sym (add-one i))

    pub covered_here : changed ≡ false → (t : ℕ) → IsTrue (is_set (row new i) t) → IsTrue (is_set (row first i) t)
    covered_here q t h = subst (λ l. IsTrue (is_set l t)) row_x (covered_one x.bits y.bits one_width (stays_same x.bits y.bits changed one_width told q) t (subst (λ l. IsTrue (is_set l t)) (sym row_y) h))

    pub still_here : changed ≡ false → rows_in (set items i z) ≡ rows_in items
    still_here q = rows_set_is ∙ set_same (rows_in items) i z.bits [] (let n = length-map items (λ v. v.bits) in let l = lt_items in omega (arith, n, l))
        (made ∙ stays_same x.bits y.bits changed one_width told q ∙ ap (λ (v : Contents). v.bits) at_x ∙ sym (get_or-map (λ (v : Contents). v.bits) items i x [] lt_items))

    pub lacked_here : changed ≡ true → LacksRows first new
    lacked_here q =
        let r = lacked_one x.bits y.bits one_width (told.0 q) in
        (i, r.0, subst (λ l. IsTrue (is_set l r.0)) row_y r.1, λ h. r.2 (subst (λ l. IsTrue (is_set l r.0)) (sym row_x) h))

-- ---- the first state that a set joins

items_decide : (xs ys : List Item) → Dec (xs ≡ ys)
items_decide [] [] = yes refl
items_decide [] (y ∷ ys) = no (λ e. cc)
items_decide (x ∷ xs) [] = no (λ e. cc)
items_decide (x ∷ xs) (y ∷ ys) = by (ℕ_discrete x.production y.production) (ℕ_discrete x.dot y.dot) (items_decide xs ys)
  where
    of_items : List Item → Item
    of_items [] = x
    of_items (z ∷ zs) = z

    rest_of : List Item → List Item
    rest_of [] = []
    rest_of (z ∷ zs) = zs

    by : Dec (x.production ≡ y.production) → Dec (x.dot ≡ y.dot) → Dec (xs ≡ ys) → Dec (x ∷ xs ≡ y ∷ ys)
    by (yes e) (yes f) (yes h) = yes (ap₂ (λ (z : Item) (zs : List Item). z ∷ zs) (ap₂ (λ (p d : ℕ). record { production = p; dot = d }) e f) h)
    by (no n) f h = no (λ e. n (ap (λ l. (of_items l).production) e))
    by (yes e) (no n) h = no (λ q. n (ap (λ l. (of_items l).dot) q))
    by (yes e) (yes f) (no n) = no (λ q. n (ap rest_of q))

module _ (states : List StateValue) (given : Core) (bucket : List ℕ) (lists : ListsCore states given.items bucket) where
  pub number_within : (i : ℕ) → i < length bucket → get_or bucket i 0 < length states
  number_within i lt = lists.within (get_or bucket i 0) (Contains-get_or bucket i 0 lt)

  place_value : (k j : ℕ) → k < length bucket → get_or bucket k j ≡ j → get_or bucket k 0 ≡ j
  place_value k j lt e = same bucket k 0 j lt ∙ e
    where
      same : (l : List ℕ) (k x y : ℕ) → k < length l → get_or l k x ≡ get_or l k y
      same [] k x y lt = absurd (omega (arith, lt))
      same (z ∷ l) zero x y lt = refl
      same (z ∷ l) (suc k) x y lt = same l k x y (omega (arith, lt))

  pub first_at : (i : ℕ) → i < length bucket → ((k : ℕ) → k < i → StaysApart states (get_or bucket k 0) given) → (j : ℕ) → j < get_or bucket i 0 → StaysApart states j given
  first_at i lt below j less = by (items_decide (state_at states j).core.items given.items)
    where
      in_states : j < length states
      in_states = let n = number_within i lt in omega (arith, n, less)

      earlier : (k : ℕ) → k < length bucket → get_or bucket k 0 ≡ j → k < i
      earlier k l e = elim (cases_lt k i) [ inl x ↦ x | inr ge ↦ elim (cases_eq k i) [ inl q ↦ absurd (at_i q) | inr ne ↦ absurd (past (omega (arith, ge, ne))) ] ]
        where
          at_i : k ≡ i → ⊥
          at_i q = let s = ap (λ n. get_or bucket n 0) q in omega (arith, s, e, less)

          past : i < k → ⊥
          past x = let s = lists.ascends i k 0 x l in omega (arith, s, e, less)

      by : Dec ((state_at states j).core.items ≡ given.items) → StaysApart states j given
      by (no n) = inl n
      by (yes e) = let (k, l, at) = lists.has j in_states e in let is = place_value k j l at in subst (λ n. StaysApart states n given) is (below k (earlier k l is))

  pub joins_none : (n : ℕ) → length bucket ≤ n → ((k : ℕ) → k < n → StaysApart states (get_or bucket k 0) given) → JoinsNone states given
  joins_none n le below j within = by (items_decide (state_at states j).core.items given.items)
    where
      by : Dec ((state_at states j).core.items ≡ given.items) → StaysApart states j given
      by (no x) = inl x
      by (yes e) = let (k, l, at) = lists.has j within e in subst (λ m. StaysApart states m given) (place_value k j l at) (below k (omega (arith, l, le)))

pub value_at : {X : Type 0} (f : X → StateValue) (xs : List X) (k : ℕ) (x : X) → k < length (map f xs) → x ≡ get_or xs k x → state_at (map f xs) k ≡ f x
value_at f xs k x lt e = get_or-map f xs k x no_state (let n = length-map xs f in omega (arith, n, lt)) ∙ ap f (sym e)

pub apart_at : (states : List StateValue) (k : ℕ) (given : Core) (v : StateValue) → state_at states k ≡ v → IsApartFrom v.core given → StaysApart states k given
apart_at states k given v e h = subst (λ (u : StateValue). IsApartFrom u.core given) (sym e) h

pub joins_at : (states : List StateValue) (k : ℕ) (given : Core) (v : StateValue) → k < length states → state_at states k ≡ v → (v.core.items ≡ given.items) × RowsFit v.core.rows given.rows → ((j : ℕ) → j < k → StaysApart states j given) → JoinsAt states k given
joins_at states k given v lt e h before = record {
  state = lt;
  same = subst (λ (u : StateValue). u.core.items ≡ given.items) (sym e) h.0;
  fits = subst (λ (u : StateValue). RowsFit u.core.rows given.rows) (sym e) h.1;
  first = before;
}

-- ---- states that are written

module _ {X : Type 0} (f : X → StateValue) (xs : List X) (k : ℕ) (x y : X) (lt : k < length xs) (at : x ≡ get_or xs k x) where
  in_map : k < length (map f xs)
  in_map = let n = length-map xs f in omega (arith, n, lt)

  pub value_here : state_at (map f xs) k ≡ f x
  value_here = value_at f xs k x in_map at

  pub kept_value : f y ≡ f x → map f (set xs k y) ≡ map f xs
  kept_value e = map-set f xs k y ∙ set_same (map f xs) k (f y) no_state in_map (e ∙ sym value_here)

  pub linked_value : (S : Sym) (t : ℕ) (es : List Edge) → f y ≡ record { core = (f x).core; edges = es; todo = (f x).todo } → IsPut (f x).edges S t es → IsLinked (map f xs) k S t (map f (set xs k y))
  linked_value S t es e put = record {
    edges = es;
    put = subst (λ (v : StateValue). IsPut v.edges S t es) (sym value_here) put;
    value = map-set f xs k y ∙ ap (set (map f xs) k) (e ∙ ap (λ (v : StateValue). record { core = v.core; edges = es; todo = v.todo }) (sym value_here));
  }

  pub grown_value : (rows : List (List Bool)) → f y ≡ record { core = record { items = (f x).core.items; rows = join_rows (f x).core.rows rows }; edges = (f x).edges; todo = true } → map f (set xs k y) ≡ grown_at (map f xs) k rows
  grown_value rows e =
      map-set f xs k y ∙ ap (set (map f xs) k) (e ∙ ap (λ (v : StateValue). record { core = record { items = v.core.items; rows = join_rows v.core.rows rows }; edges = v.edges; todo = true }) (sym value_here))

pub pushed : {X Y : Type 0} (f : X → Y) (xs : List X) (x : X) (ys : List X) (y : Y) → f x ≡ y → ys ≡ xs ++ x ∷ [] → map f ys ≡ map f xs ++ y ∷ []
pushed f xs x ys y e h = ap (map f) h ∙ map-append f xs (x ∷ []) ∙ ap (λ z. map f xs ++ z ∷ []) e
