use Rattle.std.proofs.Common.{◌+◌, ◌*◌, [], length}
use Rattle.lr_theory.specs.Chains.{Reductions}
use Rattle.state_table.specs.Graphs.{GraphValue}
use Rattle.state_table.specs.Tables.{automaton_of}
use Rattle.lrpar.specs.Replay.{overlaid, IsOver, Leads}
use Rattle.lrpar.proofs.Room.{room}
use Rattle.lrpar.proofs.overlay.reduce_all.Given as goal

abbrev pub invariant-reductions : goal.invariant-reductions
invariant-reductions g l = record {
  over : IsOver g.S.IndexStorage.number l.machine.stable.now l.base l.overlay;
  short : (x : GraphValue) → Reductions l.machine.grm.now.grammar (automaton_of x l.machine.stable.now) (g.S.IndexStorage.number l.tidx.0) (length (overlaid g.S.IndexStorage.number l.base l.initial.overlay) * (l.machine.limit + 1)) (overlaid g.S.IndexStorage.number l.base l.overlay) → ⊥;
  leads : (x : GraphValue) → Leads l.machine.grm.now.grammar (automaton_of x l.machine.stable.now) (g.S.IndexStorage.number l.tidx.0) (overlaid g.S.IndexStorage.number l.base l.initial.overlay) (overlaid g.S.IndexStorage.number l.base l.overlay);
}

abbrev pub decreases-reductions : goal.decreases-reductions
decreases-reductions g l = room l.machine.grm.now.grammar (automaton_of (record { start = 0; cores = []; closed = []; edges = [] }) l.machine.stable.now) (g.S.IndexStorage.number l.tidx.0) (length (overlaid g.S.IndexStorage.number l.base l.initial.overlay) * (l.machine.limit + 1)) (overlaid g.S.IndexStorage.number l.base l.overlay)
