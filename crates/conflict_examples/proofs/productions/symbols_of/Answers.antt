use Rattle.std.proofs.Common.{arith, sym}
use Rattle.cfg_theory.proofs.Numbers.{body_past}
use Rattle.conflict_examples.proofs.productions.symbols_of.Goals as goal

pub returns-then-to_usize : goal.returns-then-to_usize
returns-then-to_usize g c = sym (body_past c.args.grm.now.grammar (g.S.IndexStorage.number c.args.pidx.0) (grind (arith, c.if-to_usize.true, c.to_usize.ensures.value, c.to_usize-2.ensures.value, c.prods_len.ensures)))
