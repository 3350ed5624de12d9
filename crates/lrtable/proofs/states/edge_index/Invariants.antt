use Rattle.std.proofs.Common.{ℕ, ◌<◌, get_or}
use Rattle.cfg_numbered.specs.Symbols.{sym_of}
use Rattle.lrtable.specs.States.{Edge}
use Rattle.state_table.specs.Graphs.{SymBefore}
use Rattle.lrtable.specs.StateViews.{edges_of}
use Rattle.lrtable.proofs.states.edge_index.Given as goal

abbrev pub invariant-each : goal.invariant-each
invariant-each g l = (k : ℕ) → k < l.i → (d : Edge) → SymBefore (get_or (edges_of g.S.IndexStorage.number l.edges) k d).symbol (sym_of g.S.IndexStorage.number l.symbol)
