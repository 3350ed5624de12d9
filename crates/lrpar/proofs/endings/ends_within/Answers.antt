use Rattle.std.proofs.Common.{None, ap}
use Rattle.state_table.specs.CellViews.{state_of}
use Rattle.lrpar.proofs.EndingSteps.{within_limit}
use Rattle.lrpar.proofs.endings.ends_within.Goals as goal

pub ends_on-requires-clause-above : goal.ends_on-requires-clause-above
ends_on-requires-clause-above g c = c.requires.above (g.S.IndexStorage.number c.in-Some.above.0) (ap (state_of g.S.IndexStorage.number) c.in-Some.is)

pub returns-in-Some-2-clause-ends : goal.returns-in-Some-2-clause-ends
returns-in-Some-2-clause-ends g c =
    let number = g.S.IndexStorage.number in
    let G = c.args.chains.now.grm.now.grammar in
    let v = c.args.chains.now.stable.now in
    let e = rw c.in-Some-2.is at c.in_ok-ending-in-None.ensures.ending in
    rw c.in-None.is (λ h x. within_limit number G v (number c.args.tidx.0) c.args.chains.now.limit (number c.args.state.0) None c.in-Some-2.ending e (c.is_within.ensures h) x)
