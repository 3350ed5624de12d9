use Rattle.cfgrammar.proofs.AddedNames.{names_not_added}
use Rattle.cfgrammar.proofs.yacc.from_ast.names_of_texts_are_not_added.Goals as goal

pub returns : goal.returns
returns c = names_not_added
