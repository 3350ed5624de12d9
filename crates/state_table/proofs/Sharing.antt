-- Items that share their sets: one put among them, one that gets a set of its own, and copies of cores.
use Rattle.std.proofs.Common.{◌≡◌, ℕ, zero, suc, ◌+◌, ◌<◌, ◌≤◌, ◌⊎◌, inl, inr, Bool, true, false, ◌||◌, List, [], ◌∷◌, ◌++◌, length, get_or, map, set, take, drop, Some, slice_get, refl, sym, ap, ap₂, ◌∙◌, subst, subst₂, arith}
use Rattle.std.specs.Prelude.{IsTrue}
use Rattle.std.specs.List.{insert}
use Rattle.std.proofs.lemmas.Bool.{cases_lt}
use Rattle.std.proofs.lemmas.List.{get_or_default, get_or_append_left, get_or_push, length_push, length-map, map-set, map_push, take_all, take_more}
use Rattle.std.proofs.lemmas.List.Elements.{All-head, All-tail, All-cons, All-append, All-take, All-drop, All-set, All-push, All-weaker}
use Rattle.vob.specs.Packed.{Contents}
use Rattle.vob.specs.Bits.{HoldsAll, LacksSome}
use Rattle.vob.specs.Sets.{is_set}
use Rattle.vob.proofs.Bits.{join, length-bitwise, set_same}
use Rattle.lr_theory.specs.Itemset.{Items, Lookaheads, ItemSet, HasItem, HasLook, SameItems, SameLooks}
use Rattle.state_table.specs.declared.cores.CoreItem.{CoreItem}
use Rattle.state_table.specs.declared.shared_sets.SharedItem.{SharedItem}
use Rattle.state_table.specs.declared.shared_sets.SharedSets.{SharedSets}
use Rattle.state_table.specs.Adding.{Adds, SingleItem, OneLooks}
use Rattle.state_table.specs.Itemsets.{IsNewTo}
use Rattle.state_table.specs.ItemRows.{Item, IsAt, ItemBefore, Ascends, Core, IsCoreOf, map_of}
use Rattle.state_table.specs.Meeting.{rows_in, row}
use Rattle.state_table.specs.CoreViews.{item_of, items_of}
use Rattle.state_table.specs.Sharing.{keys_of, rows_at, shared_core, shared_map, PointIn, BelongsAt, KeepsSets, TakesIn, StaysAs, Extends, GrowsBy}
use Rattle.state_table.proofs.Adding.{inserted_core, inserted_adds, joined_core, joined_adds}
use Rattle.state_table.proofs.CoreSteps.{map_insert, map_at, row_at, all_after}
use Rattle.state_table.proofs.ItemSets.{has_item, has_look, one_place}

never : false ≡ true → ⊥
never e = cc

pub got : (l : List Bool) (t : ℕ) → slice_get l t ≡ Some true → IsTrue (is_set l t)
got [] t e = cc
got (x ∷ l) zero e = cc
got (x ∷ l) (suc t) e = got l t e

pub got_back : (l : List Bool) (t : ℕ) → IsTrue (is_set l t) → slice_get l t ≡ Some true
got_back [] t e = absurd (never e)
got_back (x ∷ l) zero e = ap (λ y. Some y) e
got_back (x ∷ l) (suc t) e = got_back l t e

-- ---- sets that stay at their indices

pub keeps_all : (rows : List (List Bool)) → KeepsSets rows rows
keeps_all rows = record { more = omega arith; same = λ n lt. refl }

pub keeps_pushed : (rows : List (List Bool)) (r : List Bool) → KeepsSets rows (rows ++ r ∷ [])
keeps_pushed rows r = record { more = (let n = length_push rows r in omega (arith, n)); same = λ n lt. get_or_append_left rows (r ∷ []) [] n lt }

module _ {S : Type 0} (old new : List (List Bool)) (keeps : KeepsSets old new) where
  pub rows_kept : (es : List (SharedItem S)) → PointIn old es → rows_at new es ≡ rows_at old es
  rows_kept [] h = refl
  rows_kept (e ∷ es) h = ap₂ (λ (x : List Bool) (xs : List (List Bool)). x ∷ xs) (keeps.same e.set (All-head (λ (e : SharedItem S). e.set < length old) e es h)) (rows_kept es (All-tail (λ (e : SharedItem S). e.set < length old) e es h))

  pub points_kept : (es : List (SharedItem S)) → PointIn old es → PointIn new es
  points_kept es h = All-weaker (λ (e : SharedItem S). e.set < length old) (λ (e : SharedItem S). e.set < length new) (λ e lt. (let n = keeps.more in omega (arith, lt, n))) es h

-- ---- an item that belongs somewhere isn't there

apart : (i j : Item) → ItemBefore i j → i.production ≡ j.production → i.dot ≡ j.dot → ⊥
apart i j (inl lt) e f = omega (arith, lt, e)
apart i j (inr q) e f = let lt = q.1 in omega (arith, lt, f)

pub absent : (items : List Item) (k : ℕ) (i : Item) → BelongsAt items k i → (j : ℕ) → IsAt items j i.production i.dot → ⊥
absent items k i b j at =
    let u : Item = record { production = i.production; dot = i.dot } in
    elim (cases_lt j k) [ inl lt ↦ apart (get_or items j u) i (b.below j u lt) at.production at.dot | inr ge ↦ apart i (get_or items j u) (b.above j u ge at.within) (sym at.production) (sym at.dot) ]

-- where a search says that an item belongs
pub belongs : {X : Type 0} (f : X → Item) (xs slice slice' : List X) (k : ℕ) (i : Item) → Ascends (map f xs) → slice ≡ xs → slice' ≡ xs → k ≤ length slice →
    ((j : ℕ) (d : Item) → j < k → ItemBefore (get_or (map f slice) j d) i) → ((j : ℕ) (d : Item) → k ≤ j → j < length slice → ItemBefore (get_or (map f slice) j d) i → ⊥) →
    ((d : Item) → k < length slice' → get_or (map f slice') k d ≡ i → ⊥) → BelongsAt (map f xs) k i
belongs {X = X} f xs slice slice' k i a same same' within below above other =
    let n = length-map xs f in
    let s = ap length same in
    let s' = ap length same' in
    let none = subst (λ (l : List X). (j : ℕ) (d : Item) → k ≤ j → j < length l → ItemBefore (get_or (map f l) j d) i → ⊥) same above in
    let differs = subst (λ (l : List X). (d : Item) → k < length l → get_or (map f l) k d ≡ i → ⊥) same' other in
    record {
      within = omega (arith, within, n, s);
      below = subst (λ (l : List X). (j : ℕ) (d : Item) → j < k → ItemBefore (get_or (map f l) j d) i) same below;
      above = all_after (map f xs) i a k (λ j d ge lt. none j d ge (omega (arith, lt, n))) (λ d lt. differs d (omega (arith, lt, n)));
    }

-- ---- a new item

module _ {S : Type 0} (number : S → ℕ) (es : List (SharedItem S)) (old new : List (List Bool)) (k : ℕ) (e : SharedItem S) (bits : List Bool)
    (core : IsCoreOf (length bits) (record { items = keys_of number es; rows = rows_at old es })) (points : PointIn old es) (at : BelongsAt (keys_of number es) k (item_of number e.item))
    (keeps : KeepsSets old new) (set_in : e.set < length new) (is : row new e.set ≡ bits) where
  abbrev before : Core
  before = record { items = keys_of number es; rows = rows_at old es }

  after_is : ◌≡◌ {A = Core} (record { items = keys_of number (insert es k e); rows = rows_at new (insert es k e) }) (record { items = insert (keys_of number es) k (item_of number e.item); rows = insert (rows_at old es) k bits })
  after_is = ap₂ (λ (a : List Item) (b : List (List Bool)). record { items = a; rows = b }) (map_insert (λ (x : SharedItem S). item_of number x.item) es k e)
      (map_insert (λ (x : SharedItem S). row new x.set) es k e ∙ ap₂ (λ (rs : List (List Bool)) (b : List Bool). insert rs k b) (rows_kept old new keeps es points) is)

  pub put_points : PointIn new (insert es k e)
  put_points =
      let P : SharedItem S → Type 0 = λ x. x.set < length new in
      let all = points_kept old new keeps es points in
      All-append P (take k es) (e ∷ drop k es) (All-take P k es all) (All-cons P e (drop k es) set_in (All-drop P k es all))

  pub put_adds : Adds (map_of (record { items = keys_of number es; rows = rows_at old es })) (number e.item.pidx.0) (number e.item.dot.0) bits (map_of (record { items = keys_of number (insert es k e); rows = rows_at new (insert es k e) }))
  put_adds = subst (λ (c : Core). Adds (map_of before) (number e.item.pidx.0) (number e.item.dot.0) bits (map_of c)) (sym after_is) (inserted_adds before k (item_of number e.item) bits (length bits) core at.within refl at.below at.above)

  pub put_core : IsCoreOf (length bits) (record { items = keys_of number (insert es k e); rows = rows_at new (insert es k e) })
  put_core = subst (λ (c : Core). IsCoreOf (length bits) c) (sym after_is) (inserted_core before k (item_of number e.item) bits (length bits) core at.within refl at.below at.above)

pub newly_put : {S : Type 0} (number : S → ℕ) (s : SharedSets S) (k : ℕ) (i : Item) (bits : List Bool) → IsCoreOf (length bits) (shared_core number s) → BelongsAt (keys_of number s.entries.items) k i → IsNewTo (shared_map number s) i.production i.dot bits
newly_put number s k i bits core at = inl (λ h. (let f = (has_item (shared_core number s).items (shared_core number s).rows core.ascends core.count i.production i.dot).0 h in absent (keys_of number s.entries.items) k i at f.0 f.1))

-- ---- an item that is there

module _ {S : Type 0} (number : S → ℕ) (es : List (SharedItem S)) (vs : List Contents) (k : ℕ) (i : Item) (bits : List Bool)
    (core : IsCoreOf (length bits) (record { items = keys_of number es; rows = rows_at (rows_in vs) es })) (points : PointIn (rows_in vs) es) (here : IsAt (keys_of number es) k i.production i.dot)
    (x : SharedItem S) (read : x ≡ get_or es k x) (v : Contents) (found : v ≡ get_or vs x.set v) where
  abbrev there : Core
  there = record { items = keys_of number es; rows = rows_at (rows_in vs) es }

  pub there_lt : k < length es
  there_lt = let w = here.within in let n = length-map es (λ (y : SharedItem S). item_of number y.item) in omega (arith, w, n)

  pub there_set : x.set < length (rows_in vs)
  there_set = subst (λ (y : SharedItem S). y.set < length (rows_in vs)) (sym read) (points k x there_lt)

  pub there_vec : x.set < length vs
  there_vec = let lt = there_set in let n = length-map vs (λ (c : Contents). c.bits) in omega (arith, lt, n)

  row_is : row (rows_at (rows_in vs) es) k ≡ v.bits
  row_is = map_at (λ (y : SharedItem S). row (rows_in vs) y.set) es k x [] there_lt read ∙ row_at vs x.set v there_vec found

  in_rows : k < length (rows_at (rows_in vs) es)
  in_rows = let lt = there_lt in let n = length-map es (λ (y : SharedItem S). row (rows_in vs) y.set) in omega (arith, lt, n)

  pub there_width : length v.bits ≡ length bits
  there_width = ap length (sym row_is) ∙ core.width k in_rows

  look_there : (t : ℕ) → IsTrue (is_set v.bits t) → HasLook (map_of there) i.production i.dot t
  look_there t h = (has_look there.items there.rows core.ascends core.count i.production i.dot t).1 (k, here, subst (λ l. IsTrue (is_set l t)) (sym row_is) h)

  look_back : (t : ℕ) → HasLook (map_of there) i.production i.dot t → IsTrue (is_set v.bits t)
  look_back t h =
      let f = (has_look there.items there.rows core.ascends core.count i.production i.dot t).0 h in
      subst (λ l. IsTrue (is_set l t)) row_is (subst (λ j. IsTrue (is_set (row there.rows j) t)) (one_place there.items core.ascends f.0 k i.production i.dot f.1 here) f.2)

  -- it has the lookaheads
  pub held_adds : HoldsAll v.bits bits → Adds (map_of (record { items = keys_of number es; rows = rows_at (rows_in vs) es })) i.production i.dot bits (map_of (record { items = keys_of number es; rows = rows_at (rows_in vs) es }))
  held_adds h = record {
    items = λ q e. (λ y. elim y [ inl z ↦ z | inr z ↦ item_as q e z.0 z.1 ], λ y. inl y);
    looks = λ q e t. (λ y. elim y [ inl z ↦ z | inr z ↦ look_as q e t z.0 z.1 (look_there t (h t z.2)) ], λ y. inl y);
  }
    where
      item_as : (q e : ℕ) → q ≡ i.production → e ≡ i.dot → HasItem (map_of there) q e
      item_as q e f g = subst (λ r. HasItem (map_of there) r e) (sym f) (subst (λ s. HasItem (map_of there) i.production s) (sym g) ((has_item there.items there.rows core.ascends core.count i.production i.dot).1 (k, here)))

      look_as : (q e t : ℕ) → q ≡ i.production → e ≡ i.dot → HasLook (map_of there) i.production i.dot t → HasLook (map_of there) q e t
      look_as q e t f g y = subst (λ r. HasLook (map_of there) r e t) (sym f) (subst (λ s. HasLook (map_of there) i.production s t) (sym g) y)

  pub held_old : HoldsAll v.bits bits → IsNewTo (map_of (record { items = keys_of number es; rows = rows_at (rows_in vs) es })) i.production i.dot bits → ⊥
  held_old h (inl none) = none ((has_item there.items there.rows core.ascends core.count i.production i.dot).1 (k, here))
  held_old h (inr (t, s, none)) = none (look_there t (h t (got bits t s)))

  -- it lacks some
  pub lacked_new : LacksSome v.bits bits → IsNewTo (map_of (record { items = keys_of number es; rows = rows_at (rows_in vs) es })) i.production i.dot bits
  lacked_new (t, s, none) = inr (t, got_back bits t s, λ h. never (sym none ∙ look_back t h))

  module _ (w : Contents) (joined : w.bits ≡ join v.bits bits) (n : ℕ) (last : n ≡ length vs) (y : SharedItem S) (item : y.item ≡ x.item) (points_to : y.set ≡ n) where
    more_is : rows_in (vs ++ w ∷ []) ≡ rows_in vs ++ w.bits ∷ []
    more_is = map_push (λ (c : Contents). c.bits) vs w

    keeps : KeepsSets (rows_in vs) (rows_in (vs ++ w ∷ []))
    keeps = subst (λ (r : List (List Bool)). KeepsSets (rows_in vs) r) (sym more_is) (keeps_pushed (rows_in vs) w.bits)

    new_row : row (rows_in (vs ++ w ∷ [])) y.set ≡ join (row (rows_at (rows_in vs) es) k) bits
    new_row = ap (row (rows_in (vs ++ w ∷ []))) points_to ∙ ap (λ (r : List (List Bool)). row r n) more_is ∙ get_or_push (rows_in vs) w.bits [] n (length-map vs (λ (c : Contents). c.bits) ∙ sym last) ∙ joined ∙ ap (λ b. join b bits) (sym row_is)

    keys_same : keys_of number (set es k y) ≡ keys_of number es
    keys_same = map-set (λ (z : SharedItem S). item_of number z.item) es k y ∙ set_same (keys_of number es) k (item_of number y.item) i here.within
        (ap (item_of number) item ∙ sym (map_at (λ (z : SharedItem S). item_of number z.item) es k x i there_lt read))

    rows_same : rows_at (rows_in (vs ++ w ∷ [])) (set es k y) ≡ set (rows_at (rows_in vs) es) k (join (row (rows_at (rows_in vs) es) k) bits)
    rows_same = map-set (λ (z : SharedItem S). row (rows_in (vs ++ w ∷ [])) z.set) es k y ∙ ap₂ (λ (r : List (List Bool)) (b : List Bool). set r k b) (rows_kept (rows_in vs) (rows_in (vs ++ w ∷ [])) keeps es points) new_row

    grown_is : ◌≡◌ {A = Core} (record { items = keys_of number (set es k y); rows = rows_at (rows_in (vs ++ w ∷ [])) (set es k y) }) (record { items = keys_of number es; rows = set (rows_at (rows_in vs) es) k (join (row (rows_at (rows_in vs) es) k) bits) })
    grown_is = ap₂ (λ (a : List Item) (b : List (List Bool)). record { items = a; rows = b }) keys_same rows_same

    wide : length (join (row (rows_at (rows_in vs) es) k) bits) ≡ length (row (rows_at (rows_in vs) es) k)
    wide = length-bitwise (λ a b. a || b) (row (rows_at (rows_in vs) es) k) bits (core.width k in_rows)

    pub grown_adds : Adds (map_of (record { items = keys_of number es; rows = rows_at (rows_in vs) es })) i.production i.dot bits (map_of (record { items = keys_of number (set es k y); rows = rows_at (rows_in (vs ++ w ∷ [])) (set es k y) }))
    grown_adds = subst (λ (c : Core). Adds (map_of there) i.production i.dot bits (map_of c)) (sym grown_is) (joined_adds there k i bits (length bits) core here.within refl here wide)

    pub grown_core : IsCoreOf (length bits) (record { items = keys_of number (set es k y); rows = rows_at (rows_in (vs ++ w ∷ [])) (set es k y) })
    grown_core = subst (λ (c : Core). IsCoreOf (length bits) c) (sym grown_is) (joined_core there k i bits (length bits) core here.within refl here wide)

    pub grown_points : PointIn (rows_in (vs ++ w ∷ [])) (set es k y)
    grown_points =
        let P : SharedItem S → Type 0 = λ z. z.set < length (rows_in (vs ++ w ∷ [])) in
        All-set P es k y (let m = length-map (vs ++ w ∷ []) (λ (c : Contents). c.bits) in let l = length_push vs w in omega (arith, m, l, points_to, last)) (points_kept (rows_in vs) (rows_in (vs ++ w ∷ [])) keeps es points)

    pub grown_keeps : KeepsSets (rows_in vs) (rows_in (vs ++ w ∷ []))
    grown_keeps = keeps

-- ---- the three ways to take an item in

module _ {S : Type 0} (number : S → ℕ) (old new : SharedSets S) (k : ℕ) (e : SharedItem S) (bits : List Bool) (core : IsCoreOf (length bits) (shared_core number old)) (points : PointIn (rows_in old.sets.items) old.entries.items) where
  -- as a new one
  pub put_takes : BelongsAt (keys_of number old.entries.items) k (item_of number e.item) → KeepsSets (rows_in old.sets.items) (rows_in new.sets.items) → e.set < length (rows_in new.sets.items) → row (rows_in new.sets.items) e.set ≡ bits →
      new.entries.items ≡ insert old.entries.items k e → TakesIn number (number e.item.pidx.0) (number e.item.dot.0) bits old new
  put_takes at keeps lt is es =
      let es' = sym es in
      record {
        adds = subst (λ (l : List (SharedItem S)). Adds (shared_map number old) (number e.item.pidx.0) (number e.item.dot.0) bits (map_of (record { items = keys_of number l; rows = rows_at (rows_in new.sets.items) l }))) es'
            (put_adds number old.entries.items (rows_in old.sets.items) (rows_in new.sets.items) k e bits core points at keeps lt is);
        core = subst (λ (l : List (SharedItem S)). IsCoreOf (length bits) (record { items = keys_of number l; rows = rows_at (rows_in new.sets.items) l })) es'
            (put_core number old.entries.items (rows_in old.sets.items) (rows_in new.sets.items) k e bits core points at keeps lt is);
        within = subst (λ (l : List (SharedItem S)). PointIn (rows_in new.sets.items) l) es'
            (put_points number old.entries.items (rows_in old.sets.items) (rows_in new.sets.items) k e bits core points at keeps lt is);
        sets = keeps;
      }

-- a set put last
module _ (old new : List Contents) (v : Contents) (bits : List Bool) (n : ℕ) (pushed : new ≡ old ++ v ∷ []) (is : v.bits ≡ bits) (last : n ≡ length old) where
  rows_pushed : rows_in new ≡ rows_in old ++ bits ∷ []
  rows_pushed = ap rows_in pushed ∙ map_push (λ (c : Contents). c.bits) old v ∙ ap (λ b. rows_in old ++ b ∷ []) is

  pub pushed_keeps : KeepsSets (rows_in old) (rows_in new)
  pushed_keeps = subst (λ (r : List (List Bool)). KeepsSets (rows_in old) r) (sym rows_pushed) (keeps_pushed (rows_in old) bits)

  pub pushed_lt : n < length (rows_in new)
  pushed_lt = let m = length-map new (λ (c : Contents). c.bits) in let l = length_push old v in let q = ap length pushed in omega (arith, m, l, q, last)

  pub pushed_row : row (rows_in new) n ≡ bits
  pushed_row = ap (λ (r : List (List Bool)). row r n) rows_pushed ∙ get_or_push (rows_in old) bits [] n (length-map old (λ (c : Contents). c.bits) ∙ sym last)

-- where sets were put last and items stayed, the map does
pub stays_pushed : {S : Type 0} (number : S → ℕ) (old new : SharedSets S) → PointIn (rows_in old.sets.items) old.entries.items → KeepsSets (rows_in old.sets.items) (rows_in new.sets.items) → new.entries.items ≡ old.entries.items → StaysAs number old new
stays_pushed {S = S} number old new points keeps es = record {
  core = subst (λ (l : List (SharedItem S)). ◌≡◌ {A = Core} (record { items = keys_of number l; rows = rows_at (rows_in new.sets.items) l }) (shared_core number old)) (sym es)
      (ap (λ (r : List (List Bool)). record { items = keys_of number old.entries.items; rows = r }) (rows_kept (rows_in old.sets.items) (rows_in new.sets.items) keeps old.entries.items points));
  within = subst (λ (l : List (SharedItem S)). PointIn (rows_in new.sets.items) l) (sym es) (points_kept (rows_in old.sets.items) (rows_in new.sets.items) keeps old.entries.items points);
}

pub stays_still : {S : Type 0} (number : S → ℕ) (old new : SharedSets S) → PointIn (rows_in old.sets.items) old.entries.items → new.sets.items ≡ old.sets.items → new.entries.items ≡ old.entries.items → StaysAs number old new
stays_still number old new points sets es = stays_pushed number old new points (subst (λ (l : List Contents). KeepsSets (rows_in old.sets.items) (rows_in l)) (sym sets) (keeps_all (rows_in old.sets.items))) es

-- an item that is there and has the lookaheads
pub held_takes : {S : Type 0} (number : S → ℕ) (s : SharedSets S) (k p d : ℕ) (bits : List Bool) (x : SharedItem S) (v : Contents) → IsCoreOf (length bits) (shared_core number s) → PointIn (rows_in s.sets.items) s.entries.items → IsAt (keys_of number s.entries.items) k p d → x ≡ get_or s.entries.items k x →
    v ≡ get_or s.sets.items x.set v → HoldsAll v.bits bits → TakesIn number p d bits s s
held_takes number s k p d bits x v core points here read found h = record {
  adds = held_adds number s.entries.items s.sets.items k (record { production = p; dot = d }) bits core points here x read v found h;
  core = core;
  within = points;
  sets = keeps_all (rows_in s.sets.items);
}

-- one that gets a set of its own
pub grown_takes : {S : Type 0} (number : S → ℕ) (old new : SharedSets S) (k p d : ℕ) (bits : List Bool) (x : SharedItem S) (v w : Contents) (n : ℕ) → IsCoreOf (length bits) (shared_core number old) → PointIn (rows_in old.sets.items) old.entries.items →
    IsAt (keys_of number old.entries.items) k p d → x ≡ get_or old.entries.items k x → v ≡ get_or old.sets.items x.set v → w.bits ≡ join v.bits bits → n ≡ length old.sets.items → (y : SharedItem S) → y.item ≡ x.item → y.set ≡ n →
    new.entries.items ≡ set old.entries.items k y → new.sets.items ≡ old.sets.items ++ w ∷ [] → TakesIn number p d bits old new
grown_takes {S = S} number old new k p d bits x v w n core points here read found joined last y item points_to es sets =
    let i : Item = record { production = p; dot = d } in
    record {
      adds = subst₂ (λ (l : List (SharedItem S)) (r : List Contents). Adds (shared_map number old) p d bits (map_of (record { items = keys_of number l; rows = rows_at (rows_in r) l }))) (sym es) (sym sets)
          (grown_adds number old.entries.items old.sets.items k i bits core points here x read v found w joined n last y item points_to);
      core = subst₂ (λ (l : List (SharedItem S)) (r : List Contents). IsCoreOf (length bits) (record { items = keys_of number l; rows = rows_at (rows_in r) l })) (sym es) (sym sets)
          (grown_core number old.entries.items old.sets.items k i bits core points here x read v found w joined n last y item points_to);
      within = subst₂ (λ (l : List (SharedItem S)) (r : List Contents). PointIn (rows_in r) l) (sym es) (sym sets)
          (grown_points number old.entries.items old.sets.items k i bits core points here x read v found w joined n last y item points_to);
      sets = subst (λ (r : List Contents). KeepsSets (rows_in old.sets.items) (rows_in r)) (sym sets)
          (grown_keeps number old.entries.items old.sets.items k i bits core points here x read v found w joined n last y item points_to);
    }

-- ---- copies

-- a copy of a core, so far
pub record CopiesCore {S : Type 0} (number : S → ℕ) (c : Core) (k : ℕ) (entries : List (SharedItem S)) (sets : List (List Bool)) : Type 0 where
  pub items : keys_of number entries ≡ take k c.items
  pub rows : rows_at sets entries ≡ take k c.rows
  pub within : PointIn sets entries

pub copy_next : {S : Type 0} (number : S → ℕ) (c : Core) (k : ℕ) (es es' : List (SharedItem S)) (sets sets' : List (List Bool)) (e : SharedItem S) (bits : List Bool) → CopiesCore number c k es sets → k < length c.items → k < length c.rows →
    KeepsSets sets sets' → e.set < length sets' → row sets' e.set ≡ bits → ((d : Item) → get_or c.items k d ≡ item_of number e.item) → get_or c.rows k [] ≡ bits → es' ≡ es ++ e ∷ [] → CopiesCore number c (k + 1) es' sets'
copy_next {S = S} number c k es es' sets sets' e bits h lt lt' keeps below here item same ee =
    let i = item_of number e.item in
    record {
      items = ap (keys_of number) ee ∙ map_push (λ (x : SharedItem S). item_of number x.item) es e ∙ ap₂ (λ (l : List Item) (x : Item). l ++ x ∷ []) h.items (sym (item i)) ∙ sym (take_more c.items k i lt);
      rows = ap (rows_at sets') ee ∙ map_push (λ (x : SharedItem S). row sets' x.set) es e ∙ ap₂ (λ (l : List (List Bool)) (b : List Bool). l ++ b ∷ []) (rows_kept sets sets' keeps es h.within ∙ h.rows) (here ∙ sym same) ∙ sym (take_more c.rows k [] lt');
      within = subst (λ (l : List (SharedItem S)). PointIn sets' l) (sym ee) (All-push (λ (x : SharedItem S). x.set < length sets') es e (points_kept sets sets' keeps es h.within) below);
    }

pub copy_all : {S : Type 0} (number : S → ℕ) (c : Core) (k : ℕ) (es : List (SharedItem S)) (sets : List (List Bool)) → CopiesCore number c k es sets → length c.items ≤ k → length c.rows ≤ k → ◌≡◌ {A = Core} (record { items = keys_of number es; rows = rows_at sets es }) c
copy_all number c k es sets h le le' = ap₂ (λ (a : List Item) (b : List (List Bool)). record { items = a; rows = b }) (h.items ∙ take_all k c.items le) (h.rows ∙ take_all k c.rows le')

-- ---- what is added one after another

pub extends_none : (I : Items) (L : Lookaheads) (s : ItemSet) → ((p d : ℕ) → I p d → ⊥) → ((p d t : ℕ) → L p d t → ⊥) → Extends I L s s
extends_none I L s none no_look = record {
  items = λ p d. (λ h. elim h [ inl x ↦ x | inr x ↦ absurd (none p d x) ], λ h. inl h);
  looks = λ p d t. (λ h. elim h [ inl x ↦ x | inr x ↦ absurd (no_look p d t x) ], λ h. inl h);
}

pub extends_on : (I J : Items) (L M : Lookaheads) (a b c : ItemSet) → Extends I L a b → Extends J M b c → Extends (λ p d. I p d ⊎ J p d) (λ p d t. L p d t ⊎ M p d t) a c
extends_on I J L M a b c h k = record {
  items = λ p d. (
    λ x. elim x [ inl y ↦ (k.items p d).0 (inl ((h.items p d).0 (inl y))) | inr y ↦ elim y [ inl z ↦ (k.items p d).0 (inl ((h.items p d).0 (inr z))) | inr z ↦ (k.items p d).0 (inr z) ] ],
    λ x. elim ((k.items p d).1 x) [ inl y ↦ elim ((h.items p d).1 y) [ inl z ↦ inl z | inr z ↦ inr (inl z) ] | inr y ↦ inr (inr y) ],
  );
  looks = λ p d t. (
    λ x. elim x [ inl y ↦ (k.looks p d t).0 (inl ((h.looks p d t).0 (inl y))) | inr y ↦ elim y [ inl z ↦ (k.looks p d t).0 (inl ((h.looks p d t).0 (inr z))) | inr z ↦ (k.looks p d t).0 (inr z) ] ],
    λ x. elim ((k.looks p d t).1 x) [ inl y ↦ elim ((h.looks p d t).1 y) [ inl z ↦ inl z | inr z ↦ inr (inl z) ] | inr y ↦ inr (inr y) ],
  );
}

pub extends_as : (I J : Items) (L M : Lookaheads) (a b : ItemSet) → SameItems I J → SameLooks L M → Extends I L a b → Extends J M a b
extends_as I J L M a b same same_looks h = record {
  items = λ p d. (
    λ x. (h.items p d).0 (elim x [ inl y ↦ inl y | inr y ↦ inr ((same p d).1 y) ]),
    λ x. elim ((h.items p d).1 x) [ inl y ↦ inl y | inr y ↦ inr ((same p d).0 y) ],
  );
  looks = λ p d t. (
    λ x. (h.looks p d t).0 (elim x [ inl y ↦ inl y | inr y ↦ inr ((same_looks p d t).1 y) ]),
    λ x. elim ((h.looks p d t).1 x) [ inl y ↦ inl y | inr y ↦ inr ((same_looks p d t).0 y) ],
  );
}

pub extends_one : (p d : ℕ) (bits : List Bool) (a b : ItemSet) → Adds a p d bits b → Extends (SingleItem p d) (OneLooks p d bits) a b
extends_one p d bits a b h = record { items = h.items; looks = h.looks }

module _ {S : Type 0} (number : S → ℕ) (tokens : ℕ) where
  pub grows_none : (I : Items) (L : Lookaheads) (s : SharedSets S) → IsCoreOf tokens (shared_core number s) → PointIn (rows_in s.sets.items) s.entries.items → ((p d : ℕ) → I p d → ⊥) → ((p d t : ℕ) → L p d t → ⊥) → GrowsBy number tokens I L s s
  grows_none I L s core points none no_look = record { extends = extends_none I L (shared_map number s) none no_look; core = core; within = points }

  pub grows_on : (I J : Items) (L M : Lookaheads) (a b c : SharedSets S) → GrowsBy number tokens I L a b → GrowsBy number tokens J M b c → GrowsBy number tokens (λ p d. I p d ⊎ J p d) (λ p d t. L p d t ⊎ M p d t) a c
  grows_on I J L M a b c h k = record { extends = extends_on I J L M (shared_map number a) (shared_map number b) (shared_map number c) h.extends k.extends; core = k.core; within = k.within }

  pub grows_as : (I J : Items) (L M : Lookaheads) (a b : SharedSets S) → SameItems I J → SameLooks L M → GrowsBy number tokens I L a b → GrowsBy number tokens J M a b
  grows_as I J L M a b same same_looks h = record { extends = extends_as I J L M (shared_map number a) (shared_map number b) same same_looks h.extends; core = h.core; within = h.within }

  pub grows_from : (I : Items) (L : Lookaheads) (a b c : SharedSets S) → shared_core number b ≡ shared_core number a → GrowsBy number tokens I L b c → GrowsBy number tokens I L a c
  grows_from I L a b c e h = record { extends = subst (λ (x : Core). Extends I L (map_of x) (shared_map number c)) e h.extends; core = h.core; within = h.within }

  pub grows_one : (p d : ℕ) (bits : List Bool) (a b : SharedSets S) → length bits ≡ tokens → TakesIn number p d bits a b → GrowsBy number tokens (SingleItem p d) (OneLooks p d bits) a b
  grows_one p d bits a b wide h = record { extends = extends_one p d bits (shared_map number a) (shared_map number b) h.adds; core = subst (λ n. IsCoreOf n (shared_core number b)) wide h.core; within = h.within }

-- what two reads at one index give
pub same_read : {X : Type 0} (xs : List X) (k : ℕ) (x y : X) → k < length xs → x ≡ get_or xs k x → y ≡ get_or xs k y → x ≡ y
same_read xs k x y lt e f = e ∙ get_or_default xs k x y lt ∙ sym f

-- an item that is put beside the sets as they are
pub put_shares : {S : Type 0} (number : S → ℕ) (old new : SharedSets S) (k : ℕ) (e : SharedItem S) → IsCoreOf (length (row (rows_in old.sets.items) e.set)) (shared_core number old) → PointIn (rows_in old.sets.items) old.entries.items → BelongsAt (keys_of number old.entries.items) k (item_of number e.item) →
    e.set < length old.sets.items → new.sets.items ≡ old.sets.items → new.entries.items ≡ insert old.entries.items k e → TakesIn number (number e.item.pidx.0) (number e.item.dot.0) (row (rows_in old.sets.items) e.set) old new
put_shares number old new k e core points at lt sets es =
    let bits = row (rows_in old.sets.items) e.set in
    let keeps = subst (λ (l : List Contents). KeepsSets (rows_in old.sets.items) (rows_in l)) (sym sets) (keeps_all (rows_in old.sets.items)) in
    let n = length-map new.sets.items (λ (c : Contents). c.bits) in
    let m = ap length sets in
    put_takes number old new k e bits core points at keeps (omega (arith, lt, n, m)) (ap (λ (l : List Contents). row (rows_in l) e.set) sets) es

-- one item more is copied with its lookaheads
pub there_copied : {S : Type 0} (number : S → ℕ) (s : SharedSets S) (k : ℕ) (x : SharedItem S) (v w : Contents) (is is' : List (CoreItem S)) (vs vs' : List Contents) → PointIn (rows_in s.sets.items) s.entries.items → k < length s.entries.items → x ≡ get_or s.entries.items k x → v ≡ get_or s.sets.items x.set v →
    w.bits ≡ v.bits → is' ≡ is ++ x.item ∷ [] → vs' ≡ vs ++ w ∷ [] → items_of number is ≡ take k (keys_of number s.entries.items) → rows_in vs ≡ take k (rows_at (rows_in s.sets.items) s.entries.items) →
    (items_of number is' ≡ take (k + 1) (keys_of number s.entries.items)) × (rows_in vs' ≡ take (k + 1) (rows_at (rows_in s.sets.items) s.entries.items))
there_copied {S = S} number s k x v w is is' vs vs' points lt read found copied ei ev hi hv =
    let es = s.entries.items in
    let rows = rows_in s.sets.items in
    let i = item_of number x.item in
    let n = length-map es (λ (e : SharedItem S). item_of number e.item) in
    let m = length-map es (λ (e : SharedItem S). row rows e.set) in
    let below = subst (λ (y : SharedItem S). y.set < length rows) (sym read) (points k x lt) in
    let l = length-map s.sets.items (λ (c : Contents). c.bits) in
    let item = map_at (λ (e : SharedItem S). item_of number e.item) es k x i lt read in
    let bits = map_at (λ (e : SharedItem S). row rows e.set) es k x [] lt read ∙ row_at s.sets.items x.set v (omega (arith, below, l)) found ∙ sym copied in (
      ap (items_of number) ei ∙ map_push (item_of number) is x.item ∙ ap₂ (λ (a : List Item) (b : Item). a ++ b ∷ []) hi (sym item) ∙ sym (take_more (keys_of number es) k i (omega (arith, lt, n))),
      ap rows_in ev ∙ map_push (λ (c : Contents). c.bits) vs w ∙ ap₂ (λ (a : List (List Bool)) (b : List Bool). a ++ b ∷ []) hv (sym bits) ∙ sym (take_more (rows_at rows es) k [] (omega (arith, lt, m))),
    )

-- what a loop reads at an index of the items
pub record ReadsItem {S : Type 0} (number : S → ℕ) (tokens : ℕ) (s : SharedSets S) (k : ℕ) (x : SharedItem S) (v : Contents) : Type 0 where
  pub at : IsAt (keys_of number s.entries.items) k (number x.item.pidx.0) (number x.item.dot.0)
  pub bits : row (rows_at (rows_in s.sets.items) s.entries.items) k ≡ v.bits
  pub width : length v.bits ≡ tokens

pub reads_item : {S : Type 0} (number : S → ℕ) (tokens : ℕ) (s : SharedSets S) (k : ℕ) (x : SharedItem S) (v : Contents) → IsCoreOf tokens (shared_core number s) → PointIn (rows_in s.sets.items) s.entries.items → k < length s.entries.items → x ≡ get_or s.entries.items k x → v ≡ get_or s.sets.items x.set v → ReadsItem number tokens s k x v
reads_item {S = S} number tokens s k x v core points lt read found =
    let es = s.entries.items in
    let rows = rows_in s.sets.items in
    let i = item_of number x.item in
    let n = length-map es (λ (e : SharedItem S). item_of number e.item) in
    let m = length-map es (λ (e : SharedItem S). row rows e.set) in
    let below = subst (λ (y : SharedItem S). y.set < length rows) (sym read) (points k x lt) in
    let l = length-map s.sets.items (λ (c : Contents). c.bits) in
    let item = map_at (λ (e : SharedItem S). item_of number e.item) es k x i lt read in
    let bits = map_at (λ (e : SharedItem S). row rows e.set) es k x [] lt read ∙ row_at s.sets.items x.set v (omega (arith, below, l)) found in
    record {
      at = record { within = omega (arith, lt, n); production = ap (λ (y : Item). y.production) item; dot = ap (λ (y : Item). y.dot) item };
      bits = bits;
      width = ap length (sym bits) ∙ core.width k (omega (arith, lt, m));
    }
