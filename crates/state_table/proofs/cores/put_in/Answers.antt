use Rattle.std.proofs.Common.{arith, sym, ◌∙◌}
use Rattle.state_table.proofs.CoreSteps.{insert_last}
use Rattle.state_table.proofs.cores.put_in.Goals as goal

pub returns-then-index-len : goal.returns-then-index-len
returns-then-index-len g c =
    let len = c.len.ensures in
    let t = c.if-index-len.true in
    c.in_ok-push.ensures.items ∙ sym (insert_last c.args.list.now.items c.args.index c.args.value (omega (arith, len, t)))
