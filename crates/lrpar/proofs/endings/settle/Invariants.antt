use Rattle.lrpar.specs.Endings.{AreEndings, AreLinks}
use Rattle.lrpar.proofs.endings.settle.Given as goal

abbrev pub invariant-turns : goal.invariant-turns
invariant-turns g l = record {
  rows : AreEndings g.S.IndexStorage.number l.chains.grm.now.grammar l.chains.stable.now l.rows.items;
  waiting : AreLinks g.S.IndexStorage.number l.chains.grm.now.grammar l.chains.stable.now (g.S.IndexStorage.number l.tidx.0) l.waiting.items;
}
