-- Item sets that keep each set of lookaheads once: items in ascending order, and beside each the index of its set.
use Rattle.std.specs.Prelude.{◌≡◌, ℕ, ◌<◌, ◌≤◌, ◌⊎◌, Bool, List, length, map, get_or, All}
use Rattle.lr_theory.specs.Itemset.{Items, Lookaheads, Entry, ItemSet, HasItem, HasLook, SameItems, SameLooks}
use Rattle.state_table.specs.declared.shared_sets.SharedItem.{SharedItem}
use Rattle.state_table.specs.declared.shared_sets.SharedSets.{SharedSets}
use Rattle.state_table.specs.Adding.{Adds}
use Rattle.state_table.specs.ItemRows.{Item, ItemBefore, Ascends, Core, IsCoreOf, map_of}
use Rattle.state_table.specs.Meeting.{rows_in, row}
use Rattle.state_table.specs.CoreViews.{item_of}

abbrev pub keys_of : {S : Type 0} → (S → ℕ) → List (SharedItem S) → List Item
keys_of number entries = map (λ e. item_of number e.item) entries

-- the lookaheads of each item
abbrev pub rows_at : {S : Type 0} → List (List Bool) → List (SharedItem S) → List (List Bool)
rows_at rows entries = map (λ e. row rows e.set) entries

abbrev pub shared_core : {S : Type 0} → (S → ℕ) → SharedSets S → Core
shared_core number s = record { items = keys_of number s.entries.items; rows = rows_at (rows_in s.sets.items) s.entries.items }

abbrev pub shared_map : {S : Type 0} → (S → ℕ) → SharedSets S → ItemSet
shared_map number s = map_of (shared_core number s)

-- the same entry by entry
abbrev pub entry_in : {S : Type 0} → (S → ℕ) → List (List Bool) → SharedItem S → Entry
entry_in number rows e = record { production = number e.item.pidx.0; dot = number e.item.dot.0; lookaheads = row rows e.set }

abbrev pub entries_in : {S : Type 0} → (S → ℕ) → List (List Bool) → List (SharedItem S) → ItemSet
entries_in number rows entries = map (entry_in number rows) entries

-- each index is that of a set
abbrev pub PointIn : {S : Type 0} → List (List Bool) → List (SharedItem S) → Type 0
PointIn rows entries = All (λ e. e.set < length rows) entries

-- what is so of every such value
pub record IsShared {S : Type 0} (number : S → ℕ) (s : SharedSets S) : Type 0 where
  pub ascends : Ascends (keys_of number s.entries.items)
  pub within : PointIn (rows_in s.sets.items) s.entries.items

-- i belongs at the index k of the items: those before it are less, those behind it are greater
pub record BelongsAt (items : List Item) (k : ℕ) (i : Item) : Type 0 where
  pub within : k ≤ length items
  pub below : (j : ℕ) (d : Item) → j < k → ItemBefore (get_or items j d) i
  pub above : (j : ℕ) (d : Item) → k ≤ j → j < length items → ItemBefore i (get_or items j d)

-- the sets so far stay at their indices
pub record KeepsSets (old new : List (List Bool)) : Type 0 where
  pub more : length old ≤ length new
  pub same : (n : ℕ) → n < length old → row new n ≡ row old n

-- one item was added with its lookaheads, or lookaheads to those of the item that was there
pub record TakesIn {S : Type 0} (number : S → ℕ) (p d : ℕ) (bits : List Bool) (old new : SharedSets S) : Type 0 where
  pub adds : Adds (shared_map number old) p d bits (shared_map number new)
  pub core : IsCoreOf (length bits) (shared_core number new)
  pub within : PointIn (rows_in new.sets.items) new.entries.items
  pub sets : KeepsSets (rows_in old.sets.items) (rows_in new.sets.items)

-- the items and their lookaheads stay
pub record StaysAs {S : Type 0} (number : S → ℕ) (old new : SharedSets S) : Type 0 where
  pub core : shared_core number new ≡ shared_core number old
  pub within : PointIn (rows_in new.sets.items) new.entries.items

-- the items of I and the lookaheads of L were added to a map
pub record Extends (I : Items) (L : Lookaheads) (old new : ItemSet) : Type 0 where
  pub items : SameItems (λ p d. HasItem old p d ⊎ I p d) (HasItem new)
  pub looks : SameLooks (λ p d t. HasLook old p d t ⊎ L p d t) (HasLook new)

-- the same of sets that items share, with so many tokens
pub record GrowsBy {S : Type 0} (number : S → ℕ) (tokens : ℕ) (I : Items) (L : Lookaheads) (old new : SharedSets S) : Type 0 where
  pub extends : Extends I L (shared_map number old) (shared_map number new)
  pub core : IsCoreOf tokens (shared_core number new)
  pub within : PointIn (rows_in new.sets.items) new.entries.items
