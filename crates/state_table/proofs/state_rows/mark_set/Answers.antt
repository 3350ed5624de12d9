use Rattle.std.proofs.Common.{arith}
use Rattle.state_table.proofs.Marks.{leaves_set}
use Rattle.state_table.proofs.state_rows.mark_set.Goals as goal

pub returns : goal.returns
returns c =
    let a = c.len.ensures in
    let b = c.len-2.ensures in
    let t = c.if-len.false in
    leaves_set c.args.marks.now.bits c.or.new.self.bits c.args.tokens.now.bits (omega (arith, a, b, t)) c.or.ensures.bits
