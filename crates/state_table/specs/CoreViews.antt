-- Items and cores as contracts see them.
use Rattle.std.specs.Prelude.{ℕ, List, map}
use Rattle.state_table.specs.declared.cores.CoreItem.{CoreItem}
use Rattle.state_table.specs.ItemRows.{Item, Core}
use Rattle.state_table.specs.declared.cores.CoreSet.{CoreSet}
use Rattle.state_table.specs.Meeting.{rows_in}

abbrev pub item_of : {S : Type 0} → (S → ℕ) → CoreItem S → Item
item_of number i = record { production = number i.pidx.0; dot = number i.dot.0 }

abbrev pub items_of : {S : Type 0} → (S → ℕ) → List (CoreItem S) → List Item
items_of number items = map (item_of number) items

abbrev pub core_of_set : {S : Type 0} → (S → ℕ) → CoreSet S → Core
core_of_set number c = record { items = items_of number c.items.items; rows = rows_in c.looks.items }
