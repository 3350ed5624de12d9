-- The nodes so far, and those that are left, are all.
use Rattle.std.proofs.Common.{◌≡◌, ◌++◌, drop, map}
use Rattle.std.specs.Prelude.{[]}
use Rattle.parse_trees.specs.FlatLines.{CanVisit}
use Rattle.parse_trees.specs.FlatTrees.{pieces_of}
use Rattle.text_parses.specs.NodeValues.{nodes_from, shown_of}
use Rattle.text_parses.specs.Parses.{itself, lexeme_lex}
use Rattle.text_parses.proofs.nodes.visited_nodes.Given as goal

abbrev pub invariant-visits : goal.invariant-visits
invariant-visits l = CanVisit l.grm lexeme_lex l.input (pieces_of itself l.nodes) l.visits →
    map shown_of l.found.items ++ nodes_from l.grm l.input (pieces_of itself l.nodes) l.above.items l.number (drop l.number l.visits) ≡ nodes_from l.grm l.input (pieces_of itself l.nodes) [] 0 l.visits
