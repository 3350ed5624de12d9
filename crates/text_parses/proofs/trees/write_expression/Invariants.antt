-- The expression of the nodes so far is out, but for what waits; that of the others is left.
use Rattle.std.proofs.Common.{◌≡◌, ℕ, List, ◌++◌, drop}
use Rattle.std.specs.Prelude.{None}
use Rattle.byte_streams.specs.Sink.{IsOutBut}
use Rattle.parse_trees.specs.FlatLines.{CanVisit}
use Rattle.parse_trees.specs.FlatTrees.{pieces_of}
use Rattle.text_parses.specs.Parses.{itself, lexeme_lex}
use Rattle.text_parses.specs.Quoted.{sexp_from}
use Rattle.text_parses.proofs.trees.write_expression.Given as goal

abbrev pub invariant-visits : goal.invariant-visits
invariant-visits g l = CanVisit l.grm lexeme_lex l.input (pieces_of itself l.nodes) l.visits →
    (made : List ℕ) × IsOutBut (g.W.Sink.known l.initial.out) (g.W.Sink.known l.out) made l.text.items
    × (made ++ sexp_from l.grm l.input (pieces_of itself l.nodes) l.last (drop l.visit-index l.visits) ≡ l.initial.text.items ++ sexp_from l.grm l.input (pieces_of itself l.nodes) None l.visits)
