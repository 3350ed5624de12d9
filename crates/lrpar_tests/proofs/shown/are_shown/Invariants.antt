use Rattle.std.proofs.Common.{Some, take}
use Rattle.std.specs.List.{AllByRecursion}
use Rattle.parse_trees.specs.FlatLines.{CanShowPiece}
use Rattle.parse_trees.specs.FlatTrees.{piece_of}
use Rattle.lrpar_tests.proofs.shown.are_shown.Given as goal

abbrev pub invariant-nodes : goal.invariant-nodes
invariant-nodes g l = AllByRecursion (λ n. CanShowPiece l.grm g.L.Lexeme.lex l.input (Some (piece_of g.S.IndexStorage.number n))) (take l.at l.nodes)
