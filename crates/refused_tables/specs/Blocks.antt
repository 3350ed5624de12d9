-- Listed conflicts, and the blocks that they are taken together in.
use Rattle.std.specs.Prelude.{◌≡◌, ℕ, Bool, cond, not, ◌&&◌, eqb, List, [], ◌∷◌, ◌++◌, map, Option, None, Some, IsPermutation, IsSorted}
use Rattle.std.specs.Option.{option_eq}
use Rattle.std.specs.declared.cmp.Ordering.{Ordering}
use Rattle.table_theory.specs.Cells.{Conflicts, ReduceReduce, ShiftReduce}
use Rattle.refused_tables.specs.declared.listed.Listed.{Listed}

abbrev pub pair_of : ReduceReduce → Listed
pair_of e = record { pidx = record { 0 = e.1 }; other = Some (record { 0 = e.2 }); token = record { 0 = e.0 }; state = record { 0 = e.3 } }

abbrev pub shift_of : ShiftReduce → Listed
shift_of e = record { pidx = record { 0 = e.1 }; other = None; token = record { 0 = e.0 }; state = record { 0 = e.2 } }

-- the pairs of reductions, and the shifts against reductions
abbrev pub pairs_of : Option Conflicts → List Listed
pairs_of None = []
pairs_of (Some c) = map pair_of c.reduce_reduce

abbrev pub shifts_of : Option Conflicts → List Listed
shifts_of None = []
shifts_of (Some c) = map shift_of c.shift_reduce

abbrev pub all_listed : Option Conflicts → List Listed
all_listed c = pairs_of c ++ shifts_of c

-- first the pairs, then the shifts, both in order
pub record AreListed (cmp : Listed → Listed → Ordering) (c : Option Conflicts) (listed : List Listed) : Type 0 where
  pub pairs : List Listed
  pub shifts : List Listed
  pub are : listed ≡ pairs ++ shifts
  pub pairs_are : IsPermutation (pairs_of c) pairs
  pub pairs_sorted : IsSorted cmp pairs
  pub shifts_are : IsPermutation (shifts_of c) shifts
  pub shifts_sorted : IsSorted cmp shifts

-- they are of the same productions, and each isn't to be alone
abbrev pub go_together : Bool → Listed → Listed → Bool
go_together each x y = not each && eqb x.pidx.0 y.pidx.0 && option_eq (λ p q. eqb p.0 q.0) x.other y.other

-- one more before the groups of a list, in the first of them if it goes with that one's first
abbrev pub put_before : {X : Type 0} → (X → X → Bool) → X → List (List X) → List (List X)
put_before same x [] = (x ∷ []) ∷ []
put_before same x ([] ∷ gs) = (x ∷ []) ∷ gs
put_before same x ((y ∷ ys) ∷ gs) = cond (same x y) ((x ∷ y ∷ ys) ∷ gs) ((x ∷ []) ∷ (y ∷ ys) ∷ gs)

-- a list in groups of neighbours that go together
abbrev pub groups : {X : Type 0} → (X → X → Bool) → List X → List (List X)
groups same [] = []
groups same (x ∷ xs) = put_before same x (groups same xs)

-- the listed conflicts, in groups
pub record AreBlocks (cmp : Listed → Listed → Ordering) (each : Bool) (c : Option Conflicts) (blocks : List (List Listed)) : Type 0 where
  pub listed : List Listed
  pub are_listed : AreListed cmp c listed
  pub are : blocks ≡ groups (go_together each) listed
