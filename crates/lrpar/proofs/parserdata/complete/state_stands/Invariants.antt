use Rattle.lrpar.specs.Completing.{ItemStands}
use Rattle.lrpar.proofs.ItemLists.{ItemsBelow}
use Rattle.lrpar.proofs.parserdata.complete.state_stands.Given as goal

abbrev pub invariant-items : goal.invariant-items
invariant-items g l = ItemsBelow l.items (ItemStands l.machine.grm.now.grammar l.machine.stable.now l.items (g.S.IndexStorage.number l.state.0)) l.index
