use Rattle.std.proofs.Common.{◌-◌, ◌<◌, length, ◌∙◌, arith}
use Rattle.state_table.proofs.CoreSteps.{row_at}
use Rattle.state_table.proofs.shared_sets.like_among.Goals as goal

pub returns-then-eq : goal.returns-then-eq
returns-then-eq c =
    let xs = c.args.sets.now in
    let last = length xs - 1 - c.back.n in
    let test = c.back-test.true in
    let within : last < length xs = omega (arith, test) in
    (within, row_at xs last c.index-sets-last.result within c.index-sets-last.is ∙ c.eq.ensures.exactly.0 c.if-eq.true)
