use Rattle.std.proofs.Common.{◌≡◌, ℕ, Some, length}
use Rattle.std.specs.Prelude.{slice_get}
use Rattle.std.specs.declared.alloc.Global.{Global}
use Rattle.std.specs.declared.vec.Vec.{Vec}
use Rattle.cfg_base.specs.declared.symbol.PIdx.{PIdx}
use Rattle.lrpar.specs.Branching.{AreReducers}
use Rattle.lrpar.proofs.reducers.all_reducers.Given as goal

abbrev pub invariant-states : goal.invariant-states
invariant-states g l = record {
  count : length l.all.items ≡ l.number;
  each : (k : ℕ) (x : Vec (PIdx g.row.S.Denot) Global) → slice_get l.all.items k ≡ Some x → AreReducers g.S.IndexStorage.number l.chains.grm.now.grammar l.chains.stable.now k x.items;
}
