use Rattle.parse_trees.specs.Lex.{span_by}
use Rattle.parse_trees.proofs.OnlyTree.{only_tree}
use Rattle.parse_trees.proofs.flat.FlatTree.nodes.Goals as goal

pub returns-clause-only : goal.returns-clause-only
returns-clause-only g c = λ t u is_t is_u. only_tree (span_by g.L.Lexeme.lex) t u _ is_t is_u
