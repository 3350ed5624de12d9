use Rattle.std.proofs.Common.{◌≡◌, map, take}
use Rattle.std.specs.List.{flat_map}
use Rattle.cfg_read.specs.AstModels.{ast_symbol_of}
use Rattle.cfg_numbered.specs.Symbols as own
use Rattle.cfgrammar.specs.FromAst as tree
use Rattle.cfgrammar.proofs.yacc.from_ast.numbers.body.Given as goal

abbrev pub invariant-symbols : goal.invariant-symbols
invariant-symbols g l = own.syms_of g.S.IndexStorage.number l.made.items ≡ flat_map (tree.syms_of l.implicit l.ast) (map ast_symbol_of (take l.symbol-index l.symbols))
