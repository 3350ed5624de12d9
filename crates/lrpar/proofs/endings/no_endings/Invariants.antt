use Rattle.std.proofs.Common.{◌≡◌, ℕ, [], Some, length}
use Rattle.std.specs.Prelude.{slice_get}
use Rattle.std.specs.declared.alloc.Global.{Global}
use Rattle.std.specs.declared.vec.Vec.{Vec}
use Rattle.std.proofs.Common.{Option}
use Rattle.lrpar.specs.declared.endings.Ending.{Ending}
use Rattle.lrpar.proofs.endings.no_endings.Given as goal

abbrev pub invariant-states : goal.invariant-states
invariant-states g l = record {
  count : length l.rows.items ≡ l.counter;
  none : (s : ℕ) (row : Vec (Option (Ending g.row.S.Denot)) Global) → slice_get l.rows.items s ≡ Some row → row.items ≡ [];
}
