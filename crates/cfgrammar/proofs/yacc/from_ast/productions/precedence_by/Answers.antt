use Rattle.std.proofs.Common.{map, sym}
use Rattle.cfg_read.specs.AstModels.{ast_symbol_of}
use Rattle.cfg_read.specs.NameTexts.{name_text}
use Rattle.cfgrammar.proofs.FromAstTokens.{last_known}
use Rattle.cfgrammar.proofs.yacc.from_ast.productions.precedence_by.Goals as goal

pub token_precedence-requires-clause-known : goal.token_precedence-requires-clause-known
token_precedence-requires-clause-known c =
    last_known c.args.ast.now (name_text c.in-Some-last_token.name.now) (map ast_symbol_of c.args.symbols.now) c.requires.known (sym c.in-Some-last_token.ensures)
