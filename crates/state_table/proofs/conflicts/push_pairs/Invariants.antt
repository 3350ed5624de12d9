use Rattle.std.proofs.Common.{◌≡◌, ◌++◌, take}
use Rattle.std.specs.List.{flat_map}
use Rattle.std.specs.String.{string_bytes}
use Rattle.state_table.specs.CellViews.{pairs_of}
use Rattle.state_table.specs.ConflictTexts.{pair_line}
use Rattle.state_table.proofs.conflicts.push_pairs.Given as goal

abbrev pub invariant-entries : goal.invariant-entries
invariant-entries g l = string_bytes l.text ≡ string_bytes l.initial.text ++ flat_map (pair_line l.grm) (pairs_of g.S.IndexStorage.number (take l.i l.entries))
