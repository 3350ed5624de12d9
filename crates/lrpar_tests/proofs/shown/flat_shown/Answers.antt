use Rattle.parse_trees.specs.Lex.{span_by}
use Rattle.lrpar_tests.proofs.ShownTrees.{value_can}
use Rattle.lrpar_tests.proofs.shown.flat_shown.Goals as goal

pub pp-requires : goal.pp-requires
pp-requires g c =
    let lex = g.L.Lexeme.lex in
    value_can (span_by lex) c.args.grm.now lex c.args.input.now g.S.IndexStorage.number c.nodes.result.now c.args.tree.now c.nodes.ensures.value c.nodes.ensures.tree
    (c.are_shown.ensures c.if-not-are_shown.false)
