use Rattle.std.proofs.Common.{length, ◌∙◌, refl, arith, length-set}
use Rattle.std.proofs.lemmas.Option.{slice_get_read}
use Rattle.parse_trees.specs.FlatTrees.{piece_of, pieces_of}
use Rattle.lrkit_c.specs.Nodes.{itself, node_of, nodes_of}
use Rattle.lrkit_c.proofs.Fronts.{stores_next, mapped_get}
use Rattle.lrkit_c.proofs.nodes.put_nodes.Goals as goal

pub nodes-preserved : goal.nodes-preserved
nodes-preserved c =
    let i = c.nodes.index in let from = c.args.from.now in let old = c.args.nodes.now in let G = c.args.grm.now.grammar in let x = c.index-from-index.result in
    let got = slice_get_read from (length from) i x refl c.nodes-test.true c.index-from-index.is in
    let put = mapped_get (node_of G) (pieces_of itself from) i (piece_of itself x) (mapped_get (piece_of itself) from i x got) in (
      stores_next i _ (nodes_of G (pieces_of itself from)) old c.nodes.nodes (node_of G (piece_of itself x)) c.shown_node.result put (omega (arith, c.nodes-test.true, c.requires)) c.nodes.invariant.0 (omega arith) c.shown_node.ensures,
      length-set c.nodes.nodes i c.shown_node.result ∙ c.nodes.invariant.1,
    )
