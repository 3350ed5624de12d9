use Rattle.std.proofs.Common.{◌∙◌}
use Rattle.cfgrammar.proofs.ByName.{put_behind}
use Rattle.cfgrammar.proofs.yacc.from_ast.by_name.put_last.Goals as goal

pub returns : goal.returns
returns g c = c.in_ok-insert.ensures.entries ∙ put_behind c.args.names.now.entries c.args.name c.args.beside c.requires
