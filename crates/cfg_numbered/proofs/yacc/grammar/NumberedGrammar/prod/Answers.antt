use Rattle.std.proofs.Common.{sym, ap, ◌∙◌}
use Rattle.cfg_numbered.specs.Symbols.{syms_of}
use Rattle.cfg_numbered.proofs.Lookups.{body_in}
use Rattle.cfg_numbered.proofs.yacc.grammar.NumberedGrammar.prod.Goals as goal

pub returns : goal.returns
returns g c = ap (syms_of g.S.IndexStorage.number) c.as_slice.ensures.value ∙ sym (body_in g.S.IndexStorage.number _ _ _ _ _ _ c.self.view_is c.to_usize.result (g.S.IndexStorage.number c.args.pidx.0) c.index.result.now c.to_usize.ensures.value c.requires c.index.ensures)
