use Rattle.std.proofs.Common.{ℕ}
use Rattle.lrpar.specs.Fitting.{GoesFrom}
use Rattle.lrpar.proofs.ItemLists.{ItemsBelow}
use Rattle.lrpar.proofs.parserdata.cells.begin_all.Given as goal

abbrev pub invariant-items : goal.invariant-items
invariant-items g l = (A : ℕ) → ItemsBelow l.state.items.now (GoesFrom l.state.grm.now.grammar l.state.stable.now (g.S.IndexStorage.number l.state.stidx.0) A) l.index
