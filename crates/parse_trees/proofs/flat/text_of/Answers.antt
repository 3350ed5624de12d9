use Rattle.std.proofs.Common.{◌≡◌, ◌∙◌, sym, ap, subst}
use Rattle.std.specs.List.{flat_map}
use Rattle.parse_trees.specs.Lex.{span_by}
use Rattle.parse_trees.specs.FlatTrees.{pieces_of, preorder}
use Rattle.parse_trees.specs.FlatLines.{CanVisit, visit_line}
use Rattle.parse_trees.proofs.FlatLines.{whole_at, tree_visits, tree_lines}
use Rattle.parse_trees.proofs.flat.text_of.Goals as goal

pub visited_text-requires : goal.visited_text-requires
visited_text-requires g c =
    let at = span_by g.L.Lexeme.lex in
    let pieces = pieces_of g.S.IndexStorage.number c.args.nodes.now in
    let t = c.requires.0 in
    let visits : c.as_slice.result.now ≡ preorder 0 0 t = c.as_slice.ensures.value ∙ c.in_ok-visits.ensures t c.requires.1 in
    subst (CanVisit c.args.grm.now g.L.Lexeme.lex c.args.input.now pieces) (sym visits) (tree_visits at pieces c.args.grm.now g.L.Lexeme.lex c.args.input.now 0 0 t (whole_at at pieces t c.requires.1) c.requires.2)

pub returns : goal.returns
returns g c = λ t flat_is.
    let at = span_by g.L.Lexeme.lex in
    let pieces = pieces_of g.S.IndexStorage.number c.args.nodes.now in
    let visits : c.as_slice.result.now ≡ preorder 0 0 t = c.as_slice.ensures.value ∙ c.in_ok-visits.ensures t flat_is in
    c.in_ok-text.ensures ∙ ap (flat_map (visit_line c.args.grm.now g.L.Lexeme.lex c.args.input.now pieces)) visits ∙ tree_lines at pieces c.args.grm.now g.L.Lexeme.lex c.args.input.now 0 0 t (whole_at at pieces t flat_is)
