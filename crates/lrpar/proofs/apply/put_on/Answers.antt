use Rattle.std.proofs.Common.{length, ap, arith}
use Rattle.lrpar.proofs.apply.put_on.Goals as goal

pub unreachable-requires-in-Failed : goal.unreachable-requires-in-Failed
unreachable-requires-in-Failed g c =
    let h = c.requires.stand in
    let j = rw c.in-Failed.is at (c.in_ok-advance_to.ensures.advanced h.0 h.1 h.2 h.3) in
    let lt = h.4 j.0 j.1.config j.1.fails in
    let same = ap length j.1.rest_is in
    omega (arith, lt, same)

pub returns-clause-goes : goal.returns-clause-goes
returns-clause-goes g c =
    λ input d stand rest.
    rw c.in-Shifted.is at (c.in_ok-advance_to.ensures.advanced input d stand rest)
