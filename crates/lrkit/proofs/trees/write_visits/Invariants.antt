-- The lines of the nodes so far are out, but for what waits.
use Rattle.std.proofs.Common.{◌≡◌, ◌++◌, take}
use Rattle.std.specs.List.{flat_map}
use Rattle.byte_streams.specs.Sink.{IsOutBut}
use Rattle.parse_trees.specs.FlatLines.{visit_line}
use Rattle.parse_trees.specs.FlatTrees.{pieces_of}
use Rattle.word_lines.specs.Lexing.{lex_of}
use Rattle.lrkit.specs.Output.{id}
use Rattle.lrkit.proofs.trees.write_visits.Given as goal

abbrev pub invariant-visits : goal.invariant-visits
invariant-visits g l = IsOutBut (g.W.Sink.known l.initial.out) (g.W.Sink.known l.out) (l.initial.text.items ++ flat_map (visit_line l.grm (lex_of id) l.line (pieces_of id l.nodes)) (take l.visit-index l.visits)) l.text.items × (g.W.Sink.faults l.out ≡ g.W.Sink.faults l.initial.out)
