-- Reductions on whatever token: the productions by which states reduce, and stacks among others.
use Rattle.std.specs.Prelude.{◌≡◌, ◌<◌, ℕ, List, length, Some, slice_get}
use Rattle.std.specs.declared.alloc.Global.{Global}
use Rattle.std.specs.declared.vec.Vec.{Vec}
use Rattle.cfg_base.specs.declared.symbol.PIdx.{PIdx}
use Rattle.cfg_theory.specs.Grammar.{Grammar}
use Rattle.lr_theory.specs.Automaton.{reduce}
use Rattle.state_table.specs.TableValues.{TableValue, action_at}
use Rattle.state_table.specs.declared.stidx.StIdx.{StIdx}
use Rattle.lrpar.specs.Reducing.{states_of, stack_of, AreStates}

-- the production stands in the list
abbrev pub Lists : {S : Type 0} → (S → ℕ) → List (PIdx S) → ℕ → Type 0
Lists {S} number ps p = (k : ℕ) × (i : PIdx S) × (slice_get ps k ≡ Some i) × (number i.0 ≡ p)

-- each production by which the state reduces on some token stands in the list, and these are of the grammar
pub record AreReducers {S : Type 0} (number : S → ℕ) (G : Grammar) (v : TableValue) (q : ℕ) (ps : List (PIdx S)) : Type 0 where
  pub within : (p : ℕ) → Lists number ps p → p < length G.productions
  pub all : (t p : ℕ) → action_at v q t ≡ reduce p → Lists number ps p

-- the productions by which each state reduces, one list a state
pub record AreAllReducers {S : Type 0} (number : S → ℕ) (G : Grammar) (v : TableValue) (xs : List (Vec (PIdx S) Global)) : Type 0 where
  pub count : length xs ≡ v.states
  pub each : (k : ℕ) (x : Vec (PIdx S) Global) → slice_get xs k ≡ Some x → AreReducers number G v k x.items

-- the stack, from its top on, is one of those
abbrev pub Stacked : {S : Type 0} → (S → ℕ) → List (Vec (StIdx S) Global) → List ℕ → Type 0
Stacked {S} number stacks ss = (k : ℕ) × (x : Vec (StIdx S) Global) × (slice_get stacks k ≡ Some x) × (stack_of number x.items ≡ ss)

-- a stack of states, one at least
pub record HoldsStates {S : Type 0} (number : S → ℕ) (v : TableValue) (ss : List (StIdx S)) : Type 0 where
  pub states : AreStates v (states_of number ss)
  pub some : 0 < length ss

-- each of the stacks is one
abbrev pub AllHoldStates : {S : Type 0} → (S → ℕ) → TableValue → List (Vec (StIdx S) Global) → Type 0
AllHoldStates {S} number v stacks = (k : ℕ) (x : Vec (StIdx S) Global) → slice_get stacks k ≡ Some x → HoldsStates number v x.items
