-- A set of core items as a program keeps it: the items in ascending order, which states of one core share, and beside
-- each its lookaheads.
use Rattle.vob.specs.Bits.{bitwise}
use Rattle.vob.specs.Sets.{is_set}
use Rattle.std.specs.Prelude.{◌≡◌, ℕ, ◌<◌, ◌||◌, Bool, IsTrue, List, [], ◌∷◌, length, get_or, ◌≤◌}
use Rattle.lr_theory.specs.Itemset.{ItemSet}
pub use Rattle.lr_theory.specs.ItemLists.{Item, Precedes as ItemBefore, Ascends, IsAt, set_of}
use Rattle.cfg_theory.specs.Grammar.{Grammar}

-- the rows of two maps of the same items joined
abbrev pub join_rows : List (List Bool) → List (List Bool) → List (List Bool)
join_rows [] ms = []
join_rows (l ∷ ls) [] = l ∷ ls
join_rows (l ∷ ls) (m ∷ ms) = bitwise (λ x y. x || y) l m ∷ join_rows ls ms

-- each lookahead of the second rows is in the first
abbrev pub CoversRows : List (List Bool) → List (List Bool) → Type 0
CoversRows ls ms = (k t : ℕ) → IsTrue (is_set (get_or ms k []) t) → IsTrue (is_set (get_or ls k []) t)

-- some isn't
abbrev pub LacksRows : List (List Bool) → List (List Bool) → Type 0
LacksRows ls ms = (k : ℕ) × (t : ℕ) × IsTrue (is_set (get_or ms k []) t) × (IsTrue (is_set (get_or ls k []) t) → ⊥)

-- a state's core, and its map
pub record Core : Type 0 where
  pub items : List Item
  pub rows : List (List Bool)

abbrev pub map_of : Core → ItemSet
map_of c = set_of c.items c.rows

-- so many tokens have a flag in each row
pub record IsCoreOf (tokens : ℕ) (c : Core) : Type 0 where
  pub ascends : Ascends c.items
  pub count : length c.rows ≡ length c.items
  pub width : (k : ℕ) → k < length c.rows → length (get_or c.rows k []) ≡ tokens

abbrev pub no_core : Core
no_core = record { items = []; rows = [] }

-- a core whose items are of productions of the grammar
pub record FitsCore (G : Grammar) (c : Core) : Type 0 where
  pub good : IsCoreOf G.tokens c
  pub productions : (k : ℕ) (d : Item) → k < length c.items → (get_or c.items k d).production < length G.productions

-- the item belongs at the index: those before it stand before the index, and no other does
pub record BelongsAt (items : List Item) (i : Item) (k : ℕ) : Type 0 where
  pub within : k ≤ length items
  pub below : (j : ℕ) (d : Item) → j < k → ItemBefore (get_or items j d) i
  pub above : (j : ℕ) (d : Item) → k ≤ j → j < length items → ItemBefore (get_or items j d) i → ⊥
