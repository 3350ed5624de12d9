use Rattle.std.proofs.Common.{◌≤◌, ◌+◌, ◌-◌, ap, arith}
use Rattle.text_parses.proofs.Repeats.{some_more}
use Rattle.text_parses.proofs.repeated.push_repeated.Goals as goal

pub bytes-preserved : goal.bytes-preserved
bytes-preserved c =
    let within = c.bytes.invariant.0 in
    let few : c.min-some.result ≤ c.bytes.left = omega (arith, c.min-some.ensures) in
    let less : c.bytes.left - c.min-some.result ≤ c.args.count = omega (arith, within) in
    let end = ap (λ n. n + c.min-some.result) c.len.ensures in
    (less, some_more c.args.text.now.items c.bytes.text.items c.resize.new.self.items c.args.byte c.args.count c.bytes.left c.min-some.result (c.len.result + c.min-some.result) c.bytes.text.len within few c.bytes.invariant.1 end c.bytes.text.ok.0 c.in_ok-resize.ensures.items)
