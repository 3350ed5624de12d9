use Rattle.cfgrammar.proofs.AddedNames.{names_not_added}
use Rattle.cfgrammar.proofs.yacc.from_ast.of_valid.Goals as goal

pub of_tree-requires-clause-free : goal.of_tree-requires-clause-free
of_tree-requires-clause-free g c = names_not_added c.args.ast.now c.requires.names
