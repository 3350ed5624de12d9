-- An item added to a map with its lookaheads.
use Rattle.std.specs.Prelude.{◌≡◌, ℕ, ◌⊎◌, Bool, IsTrue, List}
use Rattle.vob.specs.Sets.{is_set}
use Rattle.lr_theory.specs.Itemset.{Items, Lookaheads, ItemSet, HasItem, HasLook, SameItems, SameLooks}

-- the items of I, and (p, d)
abbrev pub WithItem : Items → ℕ → ℕ → Items
WithItem I p d q e = I q e ⊎ ((q ≡ p) × (e ≡ d))

-- the lookaheads of L, and those of the set at (p, d)
abbrev pub WithLooks : Lookaheads → ℕ → ℕ → List Bool → Lookaheads
WithLooks L p d bits q e t = L q e t ⊎ ((q ≡ p) × (e ≡ d) × IsTrue (is_set bits t))

-- the map has the item with these lookaheads beside what it had
pub record Adds (old : ItemSet) (p d : ℕ) (bits : List Bool) (new : ItemSet) : Type 0 where
  pub items : SameItems (WithItem (HasItem old) p d) (HasItem new)
  pub looks : SameLooks (WithLooks (HasLook old) p d bits) (HasLook new)

-- the item (p, d) alone, and its lookaheads
abbrev pub SingleItem : ℕ → ℕ → Items
SingleItem p d q e = (q ≡ p) × (e ≡ d)

abbrev pub OneLooks : ℕ → ℕ → List Bool → Lookaheads
OneLooks p d bits q e t = (q ≡ p) × (e ≡ d) × IsTrue (is_set bits t)
