use Rattle.std.proofs.Common.{take, reverse}
use Rattle.lr_theory.specs.Graph.{Leads}
use Rattle.cfg_numbered.specs.Symbols.{syms_of}
use Rattle.state_table.specs.Graphs.{graph_of}
use Rattle.conflict_examples.proofs.goto.state_after.Given as goal

-- the symbols before the index lead to the state
abbrev pub invariant-symbols : goal.invariant-symbols
invariant-symbols g l = Leads (graph_of l.graph) (reverse (take l.k (syms_of g.S.IndexStorage.number l.symbols))) (g.S.IndexStorage.number l.state.0)
