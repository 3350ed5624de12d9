-- Closures and edges of a graph as contracts see them.
use Rattle.std.specs.Prelude.{ℕ, List, map, zip, Option}
use Rattle.std.specs.Option.{unwrap_or}
use Rattle.std.specs.declared.alloc.Global.{Global}
use Rattle.std.specs.declared.vec.Vec.{Vec}
use Rattle.cfg_base.specs.declared.symbol.Symbol.{Symbol}
use Rattle.cfg_theory.specs.Grammar.{Sym}
use Rattle.cfg_numbered.specs.Symbols.{sym_of}
use Rattle.lr_theory.specs.Itemset.{ItemSet}
use Rattle.state_table.specs.Graphs.{GraphValue}
use Rattle.state_table.specs.declared.stidx.StIdx.{StIdx}

abbrev pub edge_seen : {S : Type 0} → (S → ℕ) → Symbol S × StIdx S → Sym × ℕ
edge_seen number e = (sym_of number e.0, number e.1.0)

abbrev pub edges_seen : {S : Type 0} → (S → ℕ) → List (Symbol S × StIdx S) → List (Sym × ℕ)
edges_seen number es = map (edge_seen number) es

-- the closures of the states: where a state has none, its core
abbrev pub closures_seen : List ItemSet → List (Option ItemSet) → List ItemSet
closures_seen cores closed = map (λ s. unwrap_or s.1 s.0) (zip cores closed)

abbrev pub graph_seen : {S : Type 0} → (S → ℕ) → List ItemSet → List (Option ItemSet) → List (Vec (Symbol S × StIdx S) Global) → GraphValue
graph_seen number cores closed edges = record { cores = cores; closed = closures_seen cores closed; start = 0; edges = map (λ l. edges_seen number l.items) edges }
