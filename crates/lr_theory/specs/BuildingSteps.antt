-- Steps of the building one symbol at a time: what a loop over the symbols of a state is proved with.
use Rattle.std.specs.Prelude.{ℕ, ◌<◌, ◌≤◌, List, ◌++◌, length, take}
use Rattle.cfg_theory.specs.Grammar.{Sym, Grammar}
use Rattle.lr_theory.specs.Itemset.{ItemSet, HasItem, HasLook, SameItems, SameLooks, Closure, ClosureLook, Goto, GotoLook, Is}
use Rattle.lr_theory.specs.Graph.{core_of}
use Rattle.lr_theory.specs.Building.{Building, Place, Handled, symbols, IsTodo, taken, Step, Reached, Underway}

pub record SetsArePlacedAlike : Type 0 where
  -- maps that hold the same are placed alike
  pub alike : (x y : ItemSet) (b c : Building) (s : ℕ) (X : Sym) → SameItems (HasItem x) (HasItem y) → SameLooks (HasLook x) (HasLook y) →
      Place b s X (HasItem x) (HasLook x) c → Place b s X (HasItem y) (HasLook y) c
  -- and a map that holds what goto gives is placed as that is
  pub as_goto : (G : Grammar) (core new : ItemSet) (b c : Building) (s : ℕ) (X : Sym) →
      Is new (Goto G (Closure G (HasItem core)) X) (GotoLook G (ClosureLook G (HasItem core) (HasLook core)) X) → Place b s X (HasItem new) (HasLook new) c →
      Place b s X (Goto G (Closure G (HasItem core)) X) (GotoLook G (ClosureLook G (HasItem core) (HasLook core)) X) c

pub record SymbolsAreHandledOn : Type 0 where
  -- symbols after symbols
  pub on : (G : Grammar) (s : ℕ) (core : ItemSet) (xs ys : List Sym) (b c e : Building) → Handled G s core xs b c → Handled G s core ys c e → Handled G s core (xs ++ ys) b e
  -- where the first so many are handled the building is underway, and where all are a step was made
  pub moment : (G : Grammar) (before c : Building) (s count : ℕ) → Reached G before → IsTodo before s → ((r : ℕ) → r < s → IsTodo before r → ⊥) →
      Handled G s (core_of before.graph s) (take count (symbols G)) (taken before s) c → Underway G c
  pub step : (G : Grammar) (before c : Building) (s count : ℕ) → IsTodo before s → ((r : ℕ) → r < s → IsTodo before r → ⊥) → length (symbols G) ≤ count →
      Handled G s (core_of before.graph s) (take count (symbols G)) (taken before s) c → Step G before c
