use Rattle.lrtable.proofs.Opened.{AddsListed}
use Rattle.lrtable.proofs.closures.open_rule.Given as goal

abbrev pub invariant-prods : goal.invariant-prods
invariant-prods g l = AddsListed g.S.IndexStorage.number l.grm.grammar (g.S.IndexStorage.number l.fn.ridx.0) l.k l.index l.looks.bits l.initial.set l.set
