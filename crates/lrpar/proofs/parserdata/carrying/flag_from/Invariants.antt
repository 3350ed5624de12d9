use Rattle.lrpar.proofs.CarriedItems.{FlaggedTo}
use Rattle.lrpar.proofs.parserdata.carrying.flag_from.Given as goal

abbrev pub invariant-edges : goal.invariant-edges
invariant-edges g l = FlaggedTo l.grm.grammar l.sgraph (g.S.IndexStorage.number l.fn.state.0) l.flags.items l.index
