use Rattle.cfg_numbered.specs.Symbols.{sym_of}
use Rattle.lrpar.proofs.CarriedItems.{CarriedTo}
use Rattle.lrpar.proofs.parserdata.carrying.carries.Given as goal

abbrev pub invariant-items : goal.invariant-items
invariant-items g l = CarriedTo g.S.IndexStorage.number l.grm.grammar l.from (sym_of g.S.IndexStorage.number l.symbol) l.past l.index
