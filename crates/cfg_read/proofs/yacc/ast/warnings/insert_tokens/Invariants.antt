use Rattle.std.proofs.Common.{◌≡◌, map, take}
use Rattle.cfg_read.specs.AstModels.{ast_symbol_of}
use Rattle.cfg_read.specs.NameModels.{names_in}
use Rattle.cfg_read.specs.WarningModels.{with_symbol_names, is_token_symbol}
use Rattle.cfg_read.proofs.yacc.ast.warnings.insert_tokens.Given as goal

abbrev pub invariant-symbols : goal.invariant-symbols
invariant-symbols l = names_in l.names ≡ with_symbol_names is_token_symbol (names_in l.fn.names) (map ast_symbol_of (take l.symbol-index l.symbols))
