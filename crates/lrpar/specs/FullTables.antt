-- Full rows of a table's cells, and of the gotos that there are.
use Rattle.std.specs.Prelude.{◌≡◌, ℕ, ◌<◌, List, Option, Some, None, slice_get}
use Rattle.std.specs.declared.alloc.Global.{Global}
use Rattle.std.specs.declared.vec.Vec.{Vec}
use Rattle.state_table.specs.declared.stidx.StIdx.{StIdx}
use Rattle.state_table.specs.declared.cells.Action.{Action}
use Rattle.state_table.specs.CellViews.{action_of}
use Rattle.state_table.specs.Rows.{at_of}
use Rattle.state_table.specs.TableValues.{TableValue, action_at, goto_at}

abbrev pub or_else : {V : Type 0} → V → Option V → V
or_else empty None = empty
or_else empty (Some v) = v

-- each of n places holds what the row has beside its number, or else the empty value
abbrev pub IsFull : {V : Type 0} → ℕ → List (ℕ × V) → V → List V → Type 0
IsFull n row empty full = (k : ℕ) → k < n → slice_get full k ≡ Some (or_else empty (at_of row k))

-- the cells of the state s that the row is long enough for, each at its token, where `number` reads an index
abbrev pub AreCells : {S : Type 0} → (S → ℕ) → TableValue → ℕ → List (Action S) → Type 0
AreCells {S} number v s row = (t : ℕ) (a : Action S) → t < v.tokens → slice_get row t ≡ Some a → action_of number a ≡ action_at v s t

-- the gotos of the state s that the row is long enough for, each at its rule; at a rule without one it has the state itself
pub record AreTargets {S : Type 0} (number : S → ℕ) (v : TableValue) (s : ℕ) (row : List (StIdx S)) : Type 0 where
  pub there : (A q : ℕ) (x : StIdx S) → goto_at v s A ≡ Some q → slice_get row A ≡ Some x → number x.0 ≡ q
  pub own : (A : ℕ) (x : StIdx S) → A < v.rules → goto_at v s A ≡ None → slice_get row A ≡ Some x → number x.0 ≡ s

-- each of n numbers has a row of which P holds
abbrev pub AreRows : {X : Type 0} → ℕ → (ℕ → List X → Type 0) → List (Vec X Global) → Type 0
AreRows {X} n P rows = (s : ℕ) → s < n → (row : Vec X Global) × (slice_get rows s ≡ Some row) × P s row.items
