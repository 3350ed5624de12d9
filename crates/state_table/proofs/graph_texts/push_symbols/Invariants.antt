use Rattle.std.proofs.Common.{◌≡◌, ◌++◌, take}
use Rattle.std.specs.List.{flat_map}
use Rattle.std.specs.String.{string_bytes}
use Rattle.cfg_numbered.specs.Symbols.{syms_of}
use Rattle.state_table.specs.GraphTexts.{spaced}
use Rattle.state_table.proofs.graph_texts.push_symbols.Given as goal

abbrev pub invariant-symbols : goal.invariant-symbols
invariant-symbols g l = string_bytes l.text ≡ string_bytes l.initial.text ++ flat_map (spaced l.grm) (syms_of g.S.IndexStorage.number (take l.i l.symbols))
