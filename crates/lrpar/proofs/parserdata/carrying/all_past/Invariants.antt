use Rattle.std.proofs.Common.{◌≡◌, ℕ, Some, length}
use Rattle.std.specs.Prelude.{slice_get}
use Rattle.std.specs.declared.alloc.Global.{Global}
use Rattle.std.specs.declared.vec.Vec.{Vec}
use Rattle.lrpar.specs.Fitting.{ArePast, closed_at}
use Rattle.lrpar.specs.declared.parserdata.fitting.PastItem.{PastItem}
use Rattle.lrpar.proofs.parserdata.carrying.all_past.Given as goal

abbrev pub invariant-states : goal.invariant-states
invariant-states g l = record {
  count : length l.all.items ≡ l.number;
  each : (k : ℕ) (x : Vec (PastItem g.row.S.Denot) Global) → slice_get l.all.items k ≡ Some x → ArePast g.S.IndexStorage.number (closed_at l.sgraph k) x.items;
}
