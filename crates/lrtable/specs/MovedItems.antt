-- Items that moved over a symbol, each with the place where its lookaheads stand.
use Rattle.std.specs.Prelude.{◌≡◌, ℕ, ◌<◌, Bool, List, [], length, map, replicate}
use Rattle.std.specs.declared.alloc.Global.{Global}
use Rattle.std.specs.declared.vec.Vec.{Vec}
use Rattle.cfg_theory.specs.Grammar.{Grammar, Sym, InRange}
use Rattle.lr_theory.specs.Itemset.{Items, HasItem, Goto}
use Rattle.lrtable.specs.declared.moved_items.MovedItem.{MovedItem}
use Rattle.lrtable.specs.declared.moved_items.Source.{Source}
use Rattle.lrtable.specs.declared.moved_items.Source.TheVariants as sources
use Rattle.lrtable.specs.Gaining.{moved_by}
use Rattle.state_table.specs.ItemRows.{Item, Core}
use Rattle.lrtable.specs.LookRows.{LookRows}
use Rattle.state_table.specs.Meeting.{row}
use Rattle.state_table.specs.CoreViews.{item_of}

-- the lookaheads that stand at a place
abbrev pub row_from : LookRows → Source → List Bool
row_from rows (sources.Own k) = row rows.own k
row_from rows (sources.Rule A) = row rows.opening.rows A

abbrev pub moved_item : {S : Type 0} → (S → ℕ) → MovedItem S → Item
moved_item number m = item_of number m.item

abbrev pub moved_items : {S : Type 0} → (S → ℕ) → List (MovedItem S) → List Item
moved_items number items = map (moved_item number) items

abbrev pub rows_from : {S : Type 0} → LookRows → List (MovedItem S) → List (List Bool)
rows_from rows items = map (λ m. row_from rows m.source) items

-- the items with their lookaheads
abbrev pub core_of_moved : {S : Type 0} → (S → ℕ) → LookRows → List (MovedItem S) → Core
core_of_moved number rows items = record { items = moved_items number items; rows = rows_from rows items }

abbrev pub set_of_moved : {S : Type 0} → (S → ℕ) → LookRows → Vec (MovedItem S) Global → Core
set_of_moved number rows v = core_of_moved number rows v.items

-- none of the rows is of no token
abbrev pub AreWide : List (List Bool) → Type 0
AreWide rows = (k : ℕ) → k < length rows → 0 < length (row rows k)

-- no set has an item to which one of these moves
abbrev pub HaveNone : Grammar → Items → List Core → Type 0
HaveNone G I sets = (X : Sym) (p d : ℕ) → InRange G X → Goto G I X p d → HasItem (moved_by G sets X) p d → ⊥

-- so many sets without items
abbrev pub AreEmpty : {S : Type 0} → ℕ → List (Vec (MovedItem S) Global) → Type 0
AreEmpty n sets = map (λ v. v.items) sets ≡ replicate n []

-- an item at dot nought is of the start production
abbrev pub IsKernel : Grammar → Items → Type 0
IsKernel G I = (p : ℕ) → I p 0 → p ≡ G.start
