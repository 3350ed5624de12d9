use Rattle.std.proofs.Common.{◌<◌, ℕ}
use Rattle.lr_theory.specs.Itemset.{HasItem}
use Rattle.lrpar.specs.Completing.{ItemStands}
use Rattle.lrpar.specs.Fitting.{closed_at}
use Rattle.lrpar.proofs.parserdata.complete.is_complete.Given as goal

abbrev pub invariant-states : goal.invariant-states
invariant-states g l = (s : ℕ) → s < l.number → (p d : ℕ) → HasItem (closed_at l.machine.sgraph.now s) p d → ItemStands l.machine.grm.now.grammar l.machine.stable.now (closed_at l.machine.sgraph.now s) s p d
