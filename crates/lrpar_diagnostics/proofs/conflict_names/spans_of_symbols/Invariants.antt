use Rattle.std.proofs.Common.{◌≡◌, map, take}
use Rattle.cfg_read.specs.Asts.{SymbolAst}
use Rattle.cfg_read.specs.AstModels.{ast_symbol_of}
use Rattle.lrpar_diagnostics.proofs.conflict_names.spans_of_symbols.Given as goal

abbrev pub invariant-symbols : goal.invariant-symbols
invariant-symbols l = l.spans.items ≡ map (λ (s : SymbolAst). s.word.span) (map ast_symbol_of (take l.i l.symbols))
