-- What is read of an item set whose items share their sets.
use Rattle.std.proofs.Common.{◌≡◌, ℕ, zero, suc, ◌<◌, Bool, List, [], ◌∷◌, length, get_or, Option, None, Some, refl, sym, ap, ◌∙◌, subst, arith}
use Rattle.std.proofs.lemmas.List.{length-map}
use Rattle.lr_theory.specs.Itemset.{Entry, ItemSet, entry_at}
use Rattle.state_table.specs.declared.shared_sets.SharedItem.{SharedItem}
use Rattle.state_table.specs.declared.shared_sets.SharedSets.{SharedSets}
use Rattle.vob.specs.Packed.{Contents}
use Rattle.state_table.specs.ItemRows.{Item, IsAt, set_of}
use Rattle.state_table.specs.Meeting.{rows_in, row}
use Rattle.state_table.specs.Sharing.{keys_of, rows_at, shared_core, shared_map, IsShared, BelongsAt}
use Rattle.state_table.specs.CoreViews.{item_of}
use Rattle.state_table.proofs.CoreSteps.{map_at, row_at}
use Rattle.state_table.proofs.Fitting.{shared_count}
use Rattle.state_table.proofs.ItemSets.{found, stands}
use Rattle.state_table.proofs.Sharing.{absent}

entry_is : (items : List Item) (rows : List (List Bool)) (k : ℕ) (i : Item) (d : Entry) → length rows ≡ length items → k < length items →
    get_or (set_of items rows) k d ≡ record { production = (get_or items k i).production; dot = (get_or items k i).dot; lookaheads = get_or rows k [] }
entry_is [] rows k i d n lt = absurd (omega (arith, lt))
entry_is (x ∷ items) [] k i d n lt = absurd (omega (arith, n))
entry_is (x ∷ items) (r ∷ rows) zero i d n lt = refl
entry_is (x ∷ items) (r ∷ rows) (suc k) i d n lt = entry_is items rows k i d (omega (arith, n)) (omega (arith, lt))

pub entries_count : (items : List Item) (rows : List (List Bool)) → length rows ≡ length items → length (set_of items rows) ≡ length items
entries_count [] rows n = refl
entries_count (x ∷ items) [] n = absurd (omega (arith, n))
entries_count (x ∷ items) (r ∷ rows) n = ap suc (entries_count items rows (omega (arith, n)))

module _ {S : Type 0} (number : S → ℕ) (s : SharedSets S) (v : ItemSet) (view : shared_map number s ≡ v) where
  pub shared_length : length v ≡ length s.entries.items
  shared_length = ap length (sym view) ∙ entries_count (shared_core number s).items (shared_core number s).rows (shared_count number s) ∙ length-map s.entries.items (λ (e : SharedItem S). item_of number e.item)

  -- the entry at an index
  pub shared_entry : (k : ℕ) (x : SharedItem S) (d : Entry) → k < length s.entries.items → x ≡ get_or s.entries.items k x → get_or v k d ≡ record { production = number x.item.pidx.0; dot = number x.item.dot.0; lookaheads = row (rows_in s.sets.items) x.set }
  shared_entry k x d lt read =
      let i = item_of number x.item in
      let n = length-map s.entries.items (λ (e : SharedItem S). item_of number e.item) in
      let item = map_at (λ (e : SharedItem S). item_of number e.item) s.entries.items k x i lt read in
      let bits = map_at (λ (e : SharedItem S). row (rows_in s.sets.items) e.set) s.entries.items k x [] lt read in
      ap (λ (l : ItemSet). get_or l k d) (sym view) ∙ entry_is (shared_core number s).items (shared_core number s).rows k i d (shared_count number s) (omega (arith, lt, n)) ∙
      ap (λ (y : Item). record { production = y.production; dot = y.dot; lookaheads = get_or (rows_at (rows_in s.sets.items) s.entries.items) k [] }) item ∙
      ap (λ (b : List Bool). record { production = i.production; dot = i.dot; lookaheads = b }) bits

  -- the lookaheads of an item that stands at an index, and that there are none where it belongs
  pub shared_at : IsShared number s → (k p d : ℕ) (x : SharedItem S) (c : Contents) → IsAt (keys_of number s.entries.items) k p d → x ≡ get_or s.entries.items k x → c ≡ get_or s.sets.items x.set c → entry_at v p d ≡ Some c.bits
  shared_at h k p d x c at read found_at =
      let w = at.within in
      let n = length-map s.entries.items (λ (e : SharedItem S). item_of number e.item) in
      let lt : k < length s.entries.items = omega (arith, w, n) in
      let below = subst (λ (y : SharedItem S). y.set < length (rows_in s.sets.items)) (sym read) (h.within k x lt) in
      let m = length-map s.sets.items (λ (y : Contents). y.bits) in
      ap (λ (l : ItemSet). entry_at l p d) (sym view) ∙ stands (shared_core number s).items (shared_core number s).rows k p d h.ascends (shared_count number s) at ∙
      ap Some (map_at (λ (e : SharedItem S). row (rows_in s.sets.items) e.set) s.entries.items k x [] lt read ∙ row_at s.sets.items x.set c (omega (arith, below, m)) found_at)

  pub shared_none : (k : ℕ) (i : Item) → BelongsAt (keys_of number s.entries.items) k i → entry_at v i.production i.dot ≡ None
  shared_none k i at = none_if (entry_at v i.production i.dot) (λ bits e.
      (let f = found (shared_core number s).items (shared_core number s).rows i.production i.dot bits (shared_count number s) (ap (λ (l : ItemSet). entry_at l i.production i.dot) view ∙ e) in
      absent (keys_of number s.entries.items) k i at f.0 f.1))
    where
      none_if : (o : Option (List Bool)) → ((bits : List Bool) → o ≡ Some bits → ⊥) → o ≡ None
      none_if None h = refl
      none_if (Some bits) h = absurd (h bits refl)

-- the set of an item is there
pub shared_in : {S : Type 0} (number : S → ℕ) (s : SharedSets S) → IsShared number s → (k : ℕ) (x : SharedItem S) → k < length s.entries.items → x ≡ get_or s.entries.items k x → x.set < length s.sets.items
shared_in {S = S} number s h k x lt read =
    let below = subst (λ (y : SharedItem S). y.set < length (rows_in s.sets.items)) (sym read) (h.within k x lt) in
    let m = length-map s.sets.items (λ (y : Contents). y.bits) in
    omega (arith, below, m)
