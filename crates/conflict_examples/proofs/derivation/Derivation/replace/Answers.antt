use Rattle.std.proofs.Common.{refl, reverse}
use Rattle.cfg_numbered.specs.Symbols.{syms_of}
use Rattle.conflict_examples.proofs.StepLists.{come_more}
use Rattle.conflict_examples.proofs.derivation.Derivation.replace.Goals as goal

pub returns : goal.returns
returns g c = λ _ a s.
    let number = g.S.IndexStorage.number in
    let was = c.args.self.now in
    let old = reverse (syms_of number was.form.items) in
    come_more c.args.grm.now.grammar (λ p. number p.0) was.steps.items c.push.new.self.items c.args.pidx a old (reverse (syms_of number c.put_first.new.form.items))
    (rw c.as_slice.ensures.value at (c.if-not-begins_with_rule_of.ensures refl)) c.in_ok-put_first.ensures c.in_ok-push.ensures.items s
