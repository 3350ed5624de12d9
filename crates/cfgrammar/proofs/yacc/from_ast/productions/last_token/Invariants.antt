use Rattle.std.proofs.Common.{◌≡◌, map, take, option_map}
use Rattle.cfg_read.specs.AstModels.{ast_symbol_of}
use Rattle.cfg_read.specs.NameTexts.{name_text}
use Rattle.cfgrammar.specs.FromAst.{last_token}
use Rattle.cfgrammar.proofs.yacc.from_ast.productions.last_token.Given as goal

abbrev pub invariant-symbols : goal.invariant-symbols
invariant-symbols l = option_map (λ s. name_text s.now) l.found ≡ last_token (map ast_symbol_of (take l.symbol-index l.symbols))
