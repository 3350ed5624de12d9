-- The sets to which the items of a closed state move, a set for each symbol by its rank.
use Rattle.std.specs.Prelude.{◌≡◌, ℕ, ◌+◌, ◌<◌, ◌⊎◌, ◌↔◌, Bool, false, List, length, get_or}
use Rattle.vob.specs.Sets.{is_set}
use Rattle.cfg_theory.specs.Grammar.{Sym, Grammar, InRange}
use Rattle.lr_theory.specs.Itemset.{Items, Lookaheads, ItemSet, HasItem, HasLook, Goto, GotoLook}
use Rattle.state_table.specs.ItemRows.{Core, map_of, IsCoreOf, no_core}
use Rattle.lrtable.specs.Handling.{rank}

abbrev pub core_in : List Core → ℕ → Core
core_in sets n = get_or sets n no_core

-- the set of the symbol X
abbrev pub moved_by : Grammar → List Core → Sym → ItemSet
moved_by G sets X = map_of (core_in sets (rank G X))

-- so many tokens have a flag in each row of each set
abbrev pub AreSets : ℕ → List Core → Type 0
AreSets tokens sets = (n : ℕ) → n < length sets → IsCoreOf tokens (core_in sets n)

-- a set whose rank has no mark has no items
abbrev pub AreMarked : List Bool → List Core → Type 0
AreMarked marks sets = (n : ℕ) → n < length sets → is_set marks n ≡ false → core_in sets n ≡ no_core

-- so it is after a step, if it was before
pub record KeepsMarks (was : List Bool) (before : List Core) (now : List Bool) (after : List Core) : Type 0 where
  pub width : length now ≡ length was
  pub marked : AreMarked was before → AreMarked now after

-- a set and a mark for each symbol
pub record AreSymbolSets (G : Grammar) (marks : List Bool) (sets : List Core) : Type 0 where
  pub count : length sets ≡ G.rules + G.tokens
  pub wide : length marks ≡ G.rules + G.tokens
  pub good : AreSets G.tokens sets

-- the items of I moved into the sets, with the lookaheads of L, and no others
pub record Gains (G : Grammar) (I : Items) (L : Lookaheads) (old new : List Core) : Type 0 where
  pub count : length new ≡ length old
  pub good : AreSets G.tokens new
  pub items : (X : Sym) → InRange G X → (p d : ℕ) → HasItem (moved_by G new X) p d ↔ (HasItem (moved_by G old X) p d ⊎ Goto G I X p d)
  pub looks : (X : Sym) → InRange G X → (p d t : ℕ) → HasLook (moved_by G new X) p d t ↔ (HasLook (moved_by G old X) p d t ⊎ GotoLook G L X p d t)
