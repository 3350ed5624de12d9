use Rattle.std.proofs.Common.{◌≡◌, List, map, take}
use Rattle.std.specs.List.{flat_map}
use Rattle.cfg_read.specs.SyntaxTexts.{SymbolText}
use Rattle.cfg_read.specs.SyntaxModels.{line_of}
use Rattle.cfg_read.specs.NameModels.{symbols_at}
use Rattle.cfg_read.proofs.yacc.names.line_symbols.Given as goal

abbrev pub invariant-lines : goal.invariant-lines
invariant-lines l = symbols_at l.found.items ≡ flat_map (λ (p : List SymbolText). p) (map line_of (take l.line-index l.lines))
