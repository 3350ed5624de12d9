use Rattle.std.proofs.Common.{◌≡◌, map, take, length}
use Rattle.std.specs.List.{flat_map}
use Rattle.cfg_read.specs.Asts.{Ast}
use Rattle.cfg_read.specs.AstModels.{ast_symbol_of}
use Rattle.cfgrammar.specs.FromAst.{as_told, syms_of}
use Rattle.cfgrammar.proofs.yacc.from_ast.counts.count_symbols.Given as goal

abbrev pub invariant-symbols : goal.invariant-symbols
invariant-symbols l = (ast : Ast) → l.count ≡ as_told (length (flat_map (syms_of l.implicit ast) (map ast_symbol_of (take l.symbol-index l.symbols))))
