-- Iterators over the indices of a list's items.
use Rattle.std.specs.Prelude.{ℕ, ◌-◌, min, Bool, true, false, not, List, length, slice_index_or, filter}
use Rattle.std.specs.List.{range_with_len}
use Rattle.std.specs.Range.Bound.{start_index, end_index}
use Rattle.std.specs.declared.ops.Bound.{Bound}

-- whether the item at an index is there and has a value
abbrev pub has_item : Bool → List Bool → ℕ → Bool
has_item true bits i = slice_index_or bits i false
has_item false bits i = not (slice_index_or bits i true)

-- the indices from one up to before another, in order
abbrev pub indices : ℕ → ℕ → List ℕ
indices from to = range_with_len from (to - from)

-- those of them whose item has the value
abbrev pub indices_of : Bool → List Bool → ℕ → ℕ → List ℕ
indices_of value bits from to = filter (has_item value bits) (indices from to)

-- the indices of a range, cut at the length, whose item has the value
abbrev pub walk : Bool → List Bool → Bound ℕ → Bound ℕ → List ℕ
walk value bits start end = indices_of value bits (start_index start) (min (end_index end (length bits)) (length bits))
