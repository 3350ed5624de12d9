use Rattle.std.proofs.Common.{reverse}
use Rattle.std.proofs.lemmas.Option.{IfSome_then}
use Rattle.cfg_numbered.specs.Symbols.{syms_of}
use Rattle.conflict_examples.proofs.derivation.checked_steps.Goals as goal

pub steps-init : goal.steps-init
steps-init g c = c.in_ok-derivation.ensures c.args.grm.now.grammar

pub returns : goal.returns
returns g c = IfSome_then c.steps_to.result c.steps_to.ensures (λ _ h. h (reverse (syms_of g.S.IndexStorage.number c.args.form.now)) c.steps.invariant)
