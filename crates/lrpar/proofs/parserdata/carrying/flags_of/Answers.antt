use Rattle.std.proofs.Common.{◌≡◌, length, subst, arith}
use Rattle.lrpar.specs.Fitting.{AreFlags}
use Rattle.lrpar.proofs.parserdata.carrying.flags_of.Goals as goal

pub returns : goal.returns
returns g c =
    let same : c.states.number ≡ length c.args.sgraph.now.cores = omega (arith, c.states-test.false, c.states.auto.number-end, c.to_usize-number-end.ensures.value, c.all_states_len-states.ensures.value) in
    subst (λ n. AreFlags c.args.grm.now.grammar c.args.sgraph.now n c.states.flags.items) same c.states.invariant
