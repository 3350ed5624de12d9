-- The paths of a call.
use Rattle.std.specs.Prelude.{ℕ, List, slice_get, option_map, String, string_bytes}
use Rattle.std.specs.declared.alloc.Global.{Global}
use Rattle.parse_trees.specs.Shapes.{text_or_none}

-- the path of this number, or nothing
abbrev pub path_at : List (String Global) → ℕ → List ℕ
path_at paths k = text_or_none (option_map string_bytes (slice_get paths k))
