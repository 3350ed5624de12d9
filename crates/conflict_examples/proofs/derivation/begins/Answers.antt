use Rattle.std.proofs.Common.{arith, reverse}
use Rattle.cfg_numbered.specs.Symbols.{syms_of}
use Rattle.conflict_examples.proofs.StepLists.{begins_with, begins_end}
use Rattle.conflict_examples.proofs.derivation.begins.Goals as goal

pub returns-in-Some-Token : goal.returns-in-Some-Token
returns-in-Some-Token g c = λ h.
    let number = g.S.IndexStorage.number in
    begins_with c.args.grm.now.grammar (number c.args.token.0) (number c.in-Some-Token.tidx.0) (reverse (syms_of number c.args.form.now)) (rw c.in-Some-Token.field-0-is at c.in-Some-Token.ensures) (grind (arith, h, c.to_usize.ensures.value, c.to_usize-in-Some-Token.ensures.value))

pub returns-in-None : goal.returns-in-None
returns-in-None g c = λ h.
    let number = g.S.IndexStorage.number in
    begins_end c.args.grm.now.grammar (number c.args.token.0) (reverse (syms_of number c.args.form.now)) c.in-None.ensures (grind (arith, h, c.to_usize-in-None.ensures.value, c.to_usize-in-None-2.ensures.value, c.eof_token_idx.ensures.value))
