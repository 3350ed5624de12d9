use Rattle.std.proofs.Common.{◌≡◌, ◌<◌, ℕ}
use Rattle.cfg_theory.specs.Grammar.{rule}
use Rattle.state_table.specs.Graphs.{target_in}
use Rattle.state_table.specs.GraphViews.{edges_seen}
use Rattle.state_table.specs.TableValues.{goto_at}
use Rattle.lrpar.specs.Fitting.{Passed}
use Rattle.lrpar.proofs.parserdata.cells.first_goto.Given as goal

abbrev pub invariant-rules : goal.invariant-rules
invariant-rules g l = record {
  passed : Passed (edges_seen g.S.IndexStorage.number l.edges) l.at (rule l.number);
  below : (t : ℕ) → t < l.number → t < l.state.stable.now.rules → goto_at l.state.stable.now (g.S.IndexStorage.number l.state.stidx.0) t ≡ target_in (edges_seen g.S.IndexStorage.number l.edges) (rule t);
}
