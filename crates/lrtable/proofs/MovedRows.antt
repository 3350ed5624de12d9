-- The lookaheads of moved items, where they stand.
use Rattle.std.proofs.Common.{◌≡◌, ℕ, ◌<◌, List, [], length, get_or, subst, arith}
use Rattle.std.proofs.lemmas.List.{length-map, get_or-map}
use Rattle.state_table.specs.ItemRows.{Core, IsCoreOf}
use Rattle.lrtable.specs.LookRows.{LookRows}
use Rattle.state_table.specs.Meeting.{row}
use Rattle.lrtable.specs.MovedItems.{AreWide, row_from, rows_from}
use Rattle.lrtable.specs.declared.moved_items.MovedItem.{MovedItem}

module _ {S : Type 0} (rows : LookRows) (items : List (MovedItem S)) where
  pub count : length (rows_from rows items) ≡ length items
  count = length-map items (λ (m : MovedItem S). row_from rows m.source)

  module _ (i : ℕ) (x : MovedItem S) (lt : i < length items) where
    pub row_of_moved : row (rows_from rows items) i ≡ row_from rows (get_or items i x).source
    row_of_moved = get_or-map (λ (m : MovedItem S). row_from rows m.source) items i x [] lt

    pub some_tokens : AreWide (rows_from rows items) → 0 < length (row_from rows (get_or items i x).source)
    some_tokens wide = let n = count in subst (λ r. 0 < length r) row_of_moved (wide i (omega (arith, n, lt)))

-- the rows of a core are wide
pub core_wide : (tokens : ℕ) (c : Core) → IsCoreOf tokens c → 0 < tokens → AreWide c.rows
core_wide tokens c good some = λ k lt. let w = good.width k lt in omega (arith, w, some)
