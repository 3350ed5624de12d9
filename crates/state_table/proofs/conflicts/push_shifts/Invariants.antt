use Rattle.std.proofs.Common.{◌≡◌, ◌++◌, take}
use Rattle.std.specs.List.{flat_map}
use Rattle.std.specs.String.{string_bytes}
use Rattle.state_table.specs.CellViews.{shifts_of}
use Rattle.state_table.specs.ConflictTexts.{shift_line}
use Rattle.state_table.proofs.conflicts.push_shifts.Given as goal

abbrev pub invariant-entries : goal.invariant-entries
invariant-entries g l = string_bytes l.text ≡ string_bytes l.initial.text ++ flat_map (shift_line l.grm) (shifts_of g.S.IndexStorage.number (take l.i l.entries))
