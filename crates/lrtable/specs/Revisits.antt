-- The goto sets of a state that was taken before: their items are those of the states that its edges lead to, and the rows
-- of their lookaheads stand in the closed state.
use Rattle.std.specs.Prelude.{◌≡◌, ℕ, suc, ◌<◌, ◌↔◌, Bool, IsTrue, List, length, get_or, Some}
use Rattle.cfg_theory.specs.Grammar.{Grammar, InRange}
use Rattle.vob.specs.Sets.{is_set}
use Rattle.lr_theory.specs.Itemset.{HasItem, HasLook, SameItems, Closure, ClosureLook, Goto}
use Rattle.lrtable.specs.declared.revisiting.Retaken.{Retaken}
use Rattle.lrtable.specs.Closes.{AreFronts}
use Rattle.state_table.specs.ItemRows.{Item, Core, map_of, FitsCore}
use Rattle.lrtable.specs.LookRows.{LookRows}
use Rattle.state_table.specs.Meeting.{row}
use Rattle.lrtable.specs.MovedItems.{IsKernel}
use Rattle.lrtable.specs.Opening.{Front}
use Rattle.lrtable.specs.States.{Edge, StateValue, state_at, edge_of}
use Rattle.state_table.specs.CoreViews.{items_of}
use Rattle.lrtable.specs.Stepping.{IsSized, IsClosureOf}

-- the item stands behind a symbol before which an item of the closed core stands
abbrev pub IsMoved : Grammar → Core → Item → Type 0
IsMoved G c i = (d : ℕ) × (i.dot ≡ suc d) × Closure G (HasItem (map_of c)) i.production d

abbrev pub AreMoved : Grammar → Core → List Item → Type 0
AreMoved G c items = (k : ℕ) (d : Item) → k < length items → IsMoved G c (get_or items k d)

-- the lookaheads that it has there
pub record IsRowBehind (G : Grammar) (c : Core) (i : Item) (bits : List Bool) : Type 0 where
  pub width : length bits ≡ G.tokens
  pub looks : (d t : ℕ) → i.dot ≡ suc d → IsTrue (is_set bits t) ↔ ClosureLook G (HasItem (map_of c)) (HasLook (map_of c)) i.production d t

-- so of each of the first k items
pub record AreRowsBehind (G : Grammar) (c : Core) (items : List Item) (k : ℕ) (rows : List (List Bool)) : Type 0 where
  pub count : length rows ≡ k
  pub each : (j : ℕ) (d : Item) → j < k → IsRowBehind G c (get_or items j d) (row rows j)

-- the rows of a core hold them
pub record AreHeld (G : Grammar) (c : Core) (items : List Item) (k : ℕ) (held : List (List Bool)) : Type 0 where
  pub rows : List (List Bool)
  pub are : AreRowsBehind G c items k rows
  pub held_at : (j t : ℕ) → j < k → IsTrue (is_set (row rows j) t) → IsTrue (is_set (row held j) t)

-- the items that were noted, with the rows of their lookaheads
abbrev pub core_noted : {S : Type 0} → (S → ℕ) → Retaken S → LookRows → Core
core_noted number w rows = record { items = items_of number w.items.items; rows = rows.own }

-- they are a core, and the rows are those of its closure
pub record IsNoted {S : Type 0} (number : S → ℕ) (G : Grammar) (w : Retaken S) (rows : LookRows) : Type 0 where
  pub fits : FitsCore G (core_noted number w rows)
  pub kernel : IsKernel G (HasItem (map_of (core_noted number w rows)))
  pub hints : length w.hints.items ≡ length G.productions
  pub sizes : IsSized G rows.opening
  pub closed : (fronts : List (List Front)) × AreFronts G fronts × IsClosureOf G fronts (core_noted number w rows) rows.opening

-- an edge of the state s, whose core is c, leads to a state with the items of the goto set
pub record LeadsOn (G : Grammar) (c : Core) (states : List StateValue) (s : ℕ) (e : Edge) : Type 0 where
  pub range : InRange G e.symbol
  pub target : e.target < length states
  pub edge : edge_of states s e.symbol ≡ Some e.target
  pub items : SameItems (Goto G (Closure G (HasItem (map_of c))) e.symbol) (HasItem (map_of (state_at states e.target).core))
  pub some : 0 < length (state_at states e.target).core.items
