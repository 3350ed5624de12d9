use Rattle.std.proofs.Common.{◌≡◌, ◌++◌, take}
use Rattle.std.specs.List.{flat_map}
use Rattle.std.specs.String.{string_bytes}
use Rattle.state_table.specs.CellViews.{pairs_of}
use Rattle.lrpar_diagnostics.specs.ConflictTexts.{pair_text}
use Rattle.lrpar_diagnostics.proofs.diagnostics.SpannedDiagnosticFormatter.push_pairs.Given as goal

abbrev pub invariant-entries : goal.invariant-entries
invariant-entries g l = string_bytes l.text ≡ string_bytes l.initial.text ++ flat_map (pair_text l.self l.grm l.dollar) (pairs_of g.S.IndexStorage.number (take l.i l.entries))
