use Rattle.std.proofs.Common.{◌≡◌, map, take}
use Rattle.cfg_read.specs.Asts.{expected_ast}
use Rattle.cfg_read.specs.AstModels.{ast_symbol_of}
use Rattle.cfg_read.specs.NameModels.{symbols_at}
use Rattle.cfg_read.proofs.yacc.ast.build.to_all_expected.Given as goal

abbrev pub invariant-symbols : goal.invariant-symbols
invariant-symbols l = map ast_symbol_of l.made.items ≡ map expected_ast (symbols_at (take l.symbol-index l.symbols))
