use Rattle.std.proofs.Common.{Some, subst, arith}
use Rattle.std.proofs.lemmas.List.{take_all}
use Rattle.std.specs.List.{AllByRecursion}
use Rattle.parse_trees.specs.FlatLines.{CanShowPiece}
use Rattle.parse_trees.specs.FlatTrees.{piece_of}
use Rattle.lrpar_tests.proofs.OneMore.{one_more}
use Rattle.lrpar_tests.proofs.shown.are_shown.Goals as goal

pub nodes-preserved : goal.nodes-preserved
nodes-preserved g c =
    one_more (λ n. CanShowPiece c.args.grm.now g.L.Lexeme.lex c.args.input.now (Some (piece_of g.S.IndexStorage.number n))) c.args.nodes.now c.nodes.at c.index-nodes-at.result (omega arith) c.index-nodes-at.is c.nodes.invariant (c.is_shown.ensures c.if-not-is_shown.false)

pub returns : goal.returns
returns g c = λ h.
    subst (AllByRecursion (λ n. CanShowPiece c.args.grm.now g.L.Lexeme.lex c.args.input.now (Some (piece_of g.S.IndexStorage.number n)))) (take_all c.nodes.at c.args.nodes.now (omega arith)) c.nodes.invariant
