use Rattle.std.proofs.Common.{◌≡◌, [], ◌∷◌}
use Rattle.lrpar.specs.Endings.{AreEndings, IsLink}
use Rattle.lrpar.proofs.endings.ends_on.Given as goal

abbrev pub invariant-links : goal.invariant-links
invariant-links g l = record {
  rows : AreEndings g.S.IndexStorage.number l.chains.grm.now.grammar l.chains.stable.now l.rows.items;
  link : IsLink g.S.IndexStorage.number l.chains.grm.now.grammar l.chains.stable.now (g.S.IndexStorage.number l.tidx.0) (g.S.IndexStorage.number l.fn.above.0 ∷ g.S.IndexStorage.number l.fn.state.0 ∷ []) l.link;
}
