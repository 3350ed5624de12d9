use Rattle.std.proofs.Common.{◌≡◌, ◌++◌, take}
use Rattle.std.specs.List.{flat_map}
use Rattle.std.specs.String.{string_bytes}
use Rattle.state_table.specs.CellViews.{shifts_of}
use Rattle.lrpar_diagnostics.specs.ConflictTexts.{shift_text}
use Rattle.lrpar_diagnostics.proofs.diagnostics.SpannedDiagnosticFormatter.push_shifts.Given as goal

abbrev pub invariant-entries : goal.invariant-entries
invariant-entries g l = string_bytes l.text ≡ string_bytes l.initial.text ++ flat_map (shift_text l.self l.read.grm.now l.read.ast.now l.read.dollar.now) (shifts_of g.S.IndexStorage.number (take l.i l.entries))
