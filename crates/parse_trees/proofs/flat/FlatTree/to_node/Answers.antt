use Rattle.std.proofs.Common.{sym, subst}
use Rattle.cfg_theory.specs.Tree.{IsTree}
use Rattle.parse_trees.specs.FlatTrees.{IsFlat}
use Rattle.parse_trees.specs.Lex.{span_by, token_by}
use Rattle.parse_trees.proofs.flat.FlatTree.to_node.Goals as goal

pub returns : goal.returns
returns g c = λ t is.
    let given = c.requires in
    let same = c.nodes.ensures.only given.0 t given.1 is in
    c.in_ok-node.ensures t (subst (IsFlat (span_by g.L.Lexeme.lex) t) (sym c.nodes.ensures.value) is) (subst (IsTree c.args.grm.now.grammar (token_by g.L.Lexeme.lex)) same given.2)
