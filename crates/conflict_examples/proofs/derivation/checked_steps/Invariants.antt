use Rattle.std.proofs.Common.{reverse}
use Rattle.cfg_numbered.specs.Symbols.{syms_of}
use Rattle.conflict_examples.specs.Opening.{ComeBy}
use Rattle.conflict_examples.proofs.derivation.checked_steps.Given as goal

-- the form has come by the steps to the one that is there
abbrev pub invariant-steps : goal.invariant-steps
invariant-steps g l =
    let number = g.S.IndexStorage.number in
    ComeBy number l.grm.grammar (reverse (syms_of number l.form)) l.derivation
