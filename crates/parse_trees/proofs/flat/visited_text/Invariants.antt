use Rattle.std.proofs.Common.{◌≡◌, take, string_bytes}
use Rattle.std.specs.List.{flat_map}
use Rattle.parse_trees.specs.FlatLines.{visit_line}
use Rattle.parse_trees.specs.FlatTrees.{pieces_of}
use Rattle.parse_trees.proofs.flat.visited_text.Given as goal

abbrev pub invariant-visits : goal.invariant-visits
invariant-visits g l =
    string_bytes l.text ≡ flat_map (visit_line l.grm g.L.Lexeme.lex l.input (pieces_of g.S.IndexStorage.number l.nodes)) (take l.visit-index l.visits)
