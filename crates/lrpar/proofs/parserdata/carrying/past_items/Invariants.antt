use Rattle.lrpar.proofs.CarriedItems.{PastTo}
use Rattle.lrpar.proofs.parserdata.carrying.past_items.Given as goal

abbrev pub invariant-items : goal.invariant-items
invariant-items g l = PastTo g.S.IndexStorage.number l.items l.past.items l.index
