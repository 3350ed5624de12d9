use Rattle.std.proofs.Common.{sym}
use Rattle.cfg_numbered.proofs.Lookups.{head_in}
use Rattle.cfg_numbered.proofs.yacc.grammar.NumberedGrammar.prod_to_rule.Goals as goal

pub returns : goal.returns
returns g c = sym (head_in g.S.IndexStorage.number _ _ _ _ _ _ c.self.view_is c.to_usize.result (g.S.IndexStorage.number c.args.pidx.0) c.index.result.now c.to_usize.ensures.value c.requires c.index.ensures)
