use Rattle.std.proofs.Common.{◌≡◌, map, take, drop}
use Rattle.cfg_read.specs.Asts.{symbol_ast}
use Rattle.cfg_read.specs.AstModels.{ast_symbol_of}
use Rattle.cfg_read.specs.SyntaxModels.{symbols_of}
use Rattle.cfg_read.specs.NameTables.{known_of}
use Rattle.cfg_read.specs.Settling.{uses_of, with_symbols}
use Rattle.cfg_read.proofs.yacc.ast.settle.Uses.settle_all.Given as goal

abbrev pub invariant-symbols : goal.invariant-symbols
invariant-symbols l =
    (map ast_symbol_of (take l.symbol-index l.symbols) ≡ map (symbol_ast (known_of l.fn.self.table).declared) (symbols_of (take l.symbol-index l.fn.symbols)))
    × (drop l.symbol-index l.symbols ≡ drop l.symbol-index l.fn.symbols)
    × (uses_of l.self ≡ with_symbols (uses_of l.fn.self) (symbols_of (take l.symbol-index l.fn.symbols)))
