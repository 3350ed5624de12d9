use Rattle.std.proofs.Common.{◌≤◌, [], ◌∷◌, length, map, ap, ◌∙◌, arith}
use Rattle.std.specs.Prelude.{option_map}
use Rattle.std.proofs.lemmas.List.{length-map}
use Rattle.std.proofs.lemmas.Option.{slice_get-map}
use Rattle.parse_trees.specs.FlatTrees.{piece_of, pieces_of}
use Rattle.parse_trees.specs.Lex.{span_by, token_by}
use Rattle.parse_trees.specs.Shapes.{shape}
use Rattle.parse_trees.proofs.FlatReading.{whole_put, next_put, all_put}
use Rattle.parse_trees.proofs.flat_nodes.node_of.Goals as goal

pub nodes-init : goal.nodes-init
nodes-init g c = λ t is tree. ([], c.in_ok-values.ensures, whole_put c.args.grm.now.grammar (token_by g.L.Lexeme.lex) (span_by g.L.Lexeme.lex) t _ is tree)

pub put_listed-requires : goal.put_listed-requires
put_listed-requires g c =
    let number = g.S.IndexStorage.number in
    let so_far = c.nodes.invariant c.requires.0 c.requires.1 c.requires.2 in
    let here = slice_get-map (piece_of number) c.args.nodes.now c.nodes.index ∙ ap (option_map (piece_of number)) c.node_at.ensures in
    let one = next_put c.args.grm.now.grammar (pieces_of number c.args.nodes.now) c.nodes.index _ so_far.0 (c.requires.0 ∷ []) here so_far.2 in
    (so_far.0, one.0, so_far.1, one.1)

pub nodes-preserved : goal.nodes-preserved
nodes-preserved g c = λ t is tree.
    let number = g.S.IndexStorage.number in
    let so_far = c.nodes.invariant t is tree in
    let here = slice_get-map (piece_of number) c.args.nodes.now c.nodes.index ∙ ap (option_map (piece_of number)) c.node_at.ensures in
    let one = next_put c.args.grm.now.grammar (pieces_of number c.args.nodes.now) c.nodes.index _ so_far.0 (t ∷ []) here so_far.2 in
    (one.0, c.in_ok-put_listed.ensures so_far.0 one.0 so_far.1 one.1, one.2)

pub unreachable-requires : goal.unreachable-requires
unreachable-requires g c =
    let number = g.S.IndexStorage.number in
    let G = c.args.grm.now.grammar in
    let t = c.requires.0 in
    let so_far = c.nodes.invariant t c.requires.1 c.requires.2 in
    let many : length (pieces_of number c.args.nodes.now) ≤ c.nodes.index = omega (arith, c.nodes-test.false, length-map c.args.nodes.now (piece_of number)) in
    let same = all_put G _ c.nodes.index so_far.0 (t ∷ []) many so_far.2 in
    c.in-None.ensures G t (so_far.1 ∙ ap (map (shape G)) same)

pub returns : goal.returns
returns g c = λ t is tree.
    let number = g.S.IndexStorage.number in
    let G = c.args.grm.now.grammar in
    let so_far = c.nodes.invariant t is tree in
    let many : length (pieces_of number c.args.nodes.now) ≤ c.nodes.index = omega (arith, c.nodes-test.false, length-map c.args.nodes.now (piece_of number)) in
    let same = all_put G _ c.nodes.index so_far.0 (t ∷ []) many so_far.2 in
    c.in-Some.ensures G t (so_far.1 ∙ ap (map (shape G)) same)
