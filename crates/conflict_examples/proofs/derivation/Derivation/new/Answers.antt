use Rattle.std.proofs.Common.{reverse, ap}
use Rattle.cfg_numbered.specs.Symbols.{syms_of}
use Rattle.conflict_examples.proofs.StepLists.{come_none}
use Rattle.conflict_examples.proofs.derivation.Derivation.new.Goals as goal

pub returns : goal.returns
returns g c = λ G.
    let number = g.S.IndexStorage.number in
    come_none G (λ p. number p.0) c.new.result.items (reverse (syms_of number c.args.form.now)) (reverse (syms_of number c.in_ok-from_slice.field-0.items)) c.new.ensures.items (ap (λ l. reverse (syms_of number l)) c.in_ok-from_slice.ensures.items)
