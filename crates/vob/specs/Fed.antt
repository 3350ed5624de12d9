-- What a hasher is fed.
use Rattle.std.specs.Prelude.{Bool, true, List, ◌++◌, length}
use Rattle.std.specs.List.{flat_map}
use Rattle.std.specs.Hash.{HashWrites, usize}
use Rattle.std.specs.declared.ops.Bound.TheVariants.{Unbounded}
use Rattle.vob.specs.Walk.{walk}

-- the length, and then the indices of the items that are set
abbrev pub fed_list : List Bool → HashWrites
fed_list bits = usize (length bits) ++ flat_map usize (walk true bits Unbounded Unbounded)
