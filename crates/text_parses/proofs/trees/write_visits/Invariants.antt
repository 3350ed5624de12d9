-- The lines of the nodes so far are out, but for what waits.
use Rattle.std.proofs.Common.{◌++◌, take}
use Rattle.std.specs.List.{flat_map}
use Rattle.byte_streams.specs.Sink.{IsOutBut}
use Rattle.parse_trees.specs.FlatLines.{CanVisit, visit_line}
use Rattle.parse_trees.specs.FlatTrees.{pieces_of}
use Rattle.text_parses.specs.Parses.{itself, lexeme_lex}
use Rattle.text_parses.proofs.trees.write_visits.Given as goal

abbrev pub invariant-visits : goal.invariant-visits
invariant-visits g l = CanVisit l.grm lexeme_lex l.input (pieces_of itself l.nodes) l.visits →
    IsOutBut (g.W.Sink.known l.initial.out) (g.W.Sink.known l.out) (l.initial.text.items ++ flat_map (visit_line l.grm lexeme_lex l.input (pieces_of itself l.nodes)) (take l.visit-index l.visits)) l.text.items
