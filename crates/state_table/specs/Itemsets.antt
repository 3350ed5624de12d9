-- Item sets as callers see them.
use Rattle.std.specs.Prelude.{◌≡◌, ℕ, ◌⊎◌, Bool, true, List, length, Some, slice_get}
use Rattle.lr_theory.specs.Itemset.{ItemSet, HasItem, HasLook, entry_at}

-- so many tokens have a flag at each item
abbrev pub HasWidth : ℕ → ItemSet → Type 0
HasWidth tokens s = (p d : ℕ) (bits : List Bool) → entry_at s p d ≡ Some bits → length bits ≡ tokens

-- the item isn't in the set, or some of the lookaheads aren't among its own
abbrev pub IsNewTo : ItemSet → ℕ → ℕ → List Bool → Type 0
IsNewTo s p d bits = (HasItem s p d → ⊥) ⊎ ((t : ℕ) × (slice_get bits t ≡ Some true) × (HasLook s p d t → ⊥))
