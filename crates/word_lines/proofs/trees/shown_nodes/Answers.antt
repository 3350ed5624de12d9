use Rattle.std.proofs.Common.{◌∙◌, sym, ap, subst}
use Rattle.std.specs.List.{flat_map}
use Rattle.parse_trees.specs.FlatLines.{CanVisit, visit_line}
use Rattle.parse_trees.specs.Lex.{span_by}
use Rattle.parse_trees.proofs.FlatLines.{tree_lines, tree_visits, whole_at}
use Rattle.word_lines.specs.Lexing.{lex_of}
use Rattle.word_lines.proofs.trees.shown_nodes.Goals as goal

pub returns-clause-can : goal.returns-clause-can
returns-clause-can g c =
    let lex = lex_of g.S.IndexStorage.number in
    let at = span_by lex in
    let pieces = c.args.tree.now.pieces in
    let t = c.requires.0 in
    subst (CanVisit c.args.grm.now lex c.args.line.now pieces) (sym (c.in_ok-visits.ensures t c.requires.1)) (tree_visits at pieces c.args.grm.now lex c.args.line.now 0 0 t (whole_at at pieces t c.requires.1) c.requires.2)

pub returns-clause-text : goal.returns-clause-text
returns-clause-text g c = λ t flat_is.
    let lex = lex_of g.S.IndexStorage.number in
    let at = span_by lex in
    let pieces = c.args.tree.now.pieces in
    ap (flat_map (visit_line c.args.grm.now lex c.args.line.now pieces)) (c.in_ok-visits.ensures t flat_is) ∙ tree_lines at pieces c.args.grm.now lex c.args.line.now 0 0 t (whole_at at pieces t flat_is)
