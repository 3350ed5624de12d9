-- Full rows beside those that a table keeps.
use Rattle.std.specs.Prelude.{◌≡◌, ℕ, List, Option, Some, slice_get}
use Rattle.std.specs.declared.alloc.Global.{Global}
use Rattle.std.specs.declared.vec.Vec.{Vec}
use Rattle.state_table.specs.Rows.{Rises, Below, at_of}

-- each place of a full row holds what the row has beside its number
abbrev pub IsSpread : {V : Type 0} → List (ℕ × V) → List (Option V) → Type 0
IsSpread {V} row spread = (k : ℕ) (o : Option V) → slice_get spread k ≡ Some o → o ≡ at_of row k

-- the full rows that there are, each of the row at its place
abbrev pub AreSpread : {V : Type 0} → List (Vec (ℕ × V) Global) → List (Vec (Option V) Global) → Type 0
AreSpread {V} rows spreads = (s : ℕ) (x : Vec (Option V) Global) → slice_get spreads s ≡ Some x → (r : Vec (ℕ × V) Global) × (slice_get rows s ≡ Some r) × IsSpread r.items x.items

-- what the row at a place has beside a number
abbrev pub TellsAt : {V : Type 0} → List (Vec (ℕ × V) Global) → ℕ → ℕ → Option V → Type 0
TellsAt {V} rows s k o = (r : Vec (ℕ × V) Global) × (slice_get rows s ≡ Some r) × (o ≡ at_of r.items k)

-- rows of which full ones can be made
abbrev pub CanSpread : {V : Type 0} → ℕ → List (Vec (ℕ × V) Global) → Type 0
CanSpread {V} n rows = (s : ℕ) (r : Vec (ℕ × V) Global) → slice_get rows s ≡ Some r → Rises r.items × Below n r.items
