use Rattle.std.proofs.Common.{map, ap, ◌∙◌}
use Rattle.cfg_read.specs.Asts.{expected_ast}
use Rattle.cfg_read.proofs.AstSymbols.{all_by_quotes, kept_symbols}
use Rattle.cfg_read.proofs.yacc.ast.Production.symbols.Goals as goal

pub returns : goal.returns
returns c = all_by_quotes c.symbols.result.now ∙ ap (map expected_ast) c.symbols.ensures ∙ kept_symbols c.args.self.now.kept
