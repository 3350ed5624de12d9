use Rattle.std.proofs.Common.{◌≡◌, ◌++◌, map, take}
use Rattle.std.specs.Prelude.{codes}
use Rattle.std.specs.List.{flat_map}
use Rattle.std.specs.String.{string_bytes}
use Rattle.parse_trees.proofs.error_texts.push_further.Given as goal

abbrev pub invariant-parts : goal.invariant-parts
invariant-parts l = string_bytes l.text ≡ string_bytes l.initial.text ++ flat_map (λ u. codes ", " ++ u) (map string_bytes (take l.i l.parts))
