use Rattle.lrpar.specs.Fitting.{LeastNot}
use Rattle.lrpar.specs.Reducing.{rule_number}
use Rattle.lrpar.proofs.LeastNumbers.{GoesBelow}
use Rattle.lrpar.proofs.parserdata.cells.first_bare.Given as goal

abbrev pub invariant-items : goal.invariant-items
invariant-items g l = LeastNot (GoesBelow l.state.grm.now.grammar l.state.items.now l.state.stable.now (g.S.IndexStorage.number l.state.stidx.0) l.index) (rule_number g.S.IndexStorage.number l.least)
