-- States as contracts see them.
use Rattle.std.specs.Prelude.{ℕ, List, [], ◌∷◌, map}
use Rattle.std.specs.declared.alloc.Global.{Global}
use Rattle.std.specs.declared.vec.Vec.{Vec}
use Rattle.cfg_base.specs.declared.symbol.Symbol.{Symbol}
use Rattle.cfg_numbered.specs.Symbols.{sym_of}
use Rattle.lrtable.specs.declared.state_lists.Numbers.{Numbers}
use Rattle.lrtable.specs.declared.state_lists.Numbers.TheVariants.{None, One, Many}
use Rattle.lrtable.specs.declared.states.State.{State}
use Rattle.lrtable.specs.States.{Edge, StateValue}
use Rattle.state_table.specs.CoreViews.{core_of_set}
use Rattle.state_table.specs.declared.stidx.StIdx.{StIdx}

abbrev pub EdgeTo : Type 0 → Type 0
EdgeTo S = Symbol S × StIdx S

abbrev pub edge_of_pair : {S : Type 0} → (S → ℕ) → EdgeTo S → Edge
edge_of_pair number e = record { symbol = sym_of number e.0; target = number e.1.0 }

abbrev pub edges_of : {S : Type 0} → (S → ℕ) → List (EdgeTo S) → List Edge
edges_of number edges = map (edge_of_pair number) edges

abbrev pub value_of : {S : Type 0} → (S → ℕ) → State S → StateValue
value_of number s = record { core = core_of_set number s.core; edges = edges_of number s.edges.items; todo = s.todo }

abbrev pub numbers_of : Numbers → List ℕ
numbers_of None = []
numbers_of (One n) = n ∷ []
numbers_of (Many list) = list.items

abbrev pub lists_of : List (Vec Numbers Global) → List (List (List ℕ))
lists_of lists = map (λ v. map numbers_of v.items) lists
