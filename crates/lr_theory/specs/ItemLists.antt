-- Item sets as lists: items in order with a row of flags beside each, the index at which an item stands, and when two
-- sets are one list.
use Rattle.std.specs.Prelude.{◌≡◌, ℕ, ◌<◌, ◌⊎◌, ◌↔◌, Bool, true, List, [], ◌∷◌, length, get_or, Some, slice_get, AllPairs}
use Rattle.cfg_theory.specs.Grammar.{Grammar}
use Rattle.lr_theory.specs.Itemset.{ItemSet, ItemBefore, HasItem, HasLook, SameItems, SameLooks, FitsGrammar}

-- a production with a dot
pub record Item : Type 0 where
  pub production : ℕ
  pub dot : ℕ

-- the order of items, as `ItemBefore` of entries
abbrev pub Precedes : Item → Item → Type 0
Precedes i j = (i.production < j.production) ⊎ ((i.production ≡ j.production) × (i.dot < j.dot))

abbrev pub Ascends : List Item → Type 0
Ascends items = AllPairs Precedes items

-- the item (p, d) stands at the index k
pub record IsAt (items : List Item) (k p d : ℕ) : Type 0 where
  pub within : k < length items
  pub production : (get_or items k (record { production = p; dot = d })).production ≡ p
  pub dot : (get_or items k (record { production = p; dot = d })).dot ≡ d

abbrev pub Stands : List Item → ℕ → ℕ → Type 0
Stands items p d = (k : ℕ) × IsAt items k p d

-- the set of these items, each with the row of flags beside it
abbrev pub set_of : List Item → List (List Bool) → ItemSet
set_of [] rows = []
set_of (i ∷ items) [] = []
set_of (i ∷ items) (row ∷ rows) = record { production = i.production; dot = i.dot; lookaheads = row } ∷ set_of items rows

-- of ascending items with a row beside each
pub record ItemsStandOnce : Type 0 where
  -- the set has the items that stand in the list, with the lookaheads of their rows
  pub has_item : (items : List Item) (rows : List (List Bool)) → Ascends items → length rows ≡ length items → (p d : ℕ) → HasItem (set_of items rows) p d ↔ Stands items p d
  pub has_look : (items : List Item) (rows : List (List Bool)) → Ascends items → length rows ≡ length items → (p d t : ℕ) →
      HasLook (set_of items rows) p d t ↔ ((k : ℕ) × IsAt items k p d × (slice_get (get_or rows k []) t ≡ Some true))
  -- each stands at one index
  pub one_index : (items : List Item) → Ascends items → (j k p d : ℕ) → IsAt items j p d → IsAt items k p d → j ≡ k
  -- lists of the same items are one
  pub same_lists : (xs ys : List Item) → Ascends xs → Ascends ys → ((p d : ℕ) → Stands xs p d ↔ Stands ys p d) → xs ≡ ys
  -- the set's entries are in order
  pub ordered : (items : List Item) (rows : List (List Bool)) → Ascends items → AllPairs ItemBefore (set_of items rows)

-- sets that fit a grammar are one list where they hold the same
pub record ItemSetsAreOne : Type 0 where
  pub one : (G : Grammar) (s u : ItemSet) → FitsGrammar G s → FitsGrammar G u → SameItems (HasItem s) (HasItem u) → SameLooks (HasLook s) (HasLook u) → s ≡ u
