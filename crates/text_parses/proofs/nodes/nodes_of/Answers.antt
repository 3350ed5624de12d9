use Rattle.std.proofs.Common.{sym, ap, ◌∙◌, subst}
use Rattle.std.specs.Prelude.{[]}
use Rattle.std.proofs.lemmas.Result.{IfOk-weaker}
use Rattle.parse_trees.specs.FlatLines.{CanVisit}
use Rattle.parse_trees.specs.Lex.{span_by}
use Rattle.parse_trees.proofs.FlatLines.{tree_visits, whole_at}
use Rattle.text_parses.specs.NodeValues.{nodes_from}
use Rattle.text_parses.specs.Parses.{lexeme_lex}
use Rattle.text_parses.proofs.nodes.nodes_of.Goals as goal

pub returns : goal.returns
returns c = IfOk-weaker c.visited_nodes.result _ _ (λ v made t is can.
    let at = span_by lexeme_lex in
    let pieces = c.args.tree.now.pieces in
    let visited = c.in_ok-visits.ensures t is in
    let whole = whole_at at pieces t is in
    let shown = subst (CanVisit c.args.grm.now lexeme_lex c.args.input.now pieces) (sym visited) (tree_visits at pieces c.args.grm.now lexeme_lex c.args.input.now 0 0 t whole can) in
    made shown ∙ ap (nodes_from c.args.grm.now c.args.input.now pieces [] 0) visited) (rw (c.nodes.ensures.value, c.as_slice.ensures.value) at c.visited_nodes.ensures)
