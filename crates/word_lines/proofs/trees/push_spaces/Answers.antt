use Rattle.std.proofs.Common.{◌≤◌, ◌+◌, ◌-◌, ap, arith}
use Rattle.word_lines.proofs.Spaces.{some_more}
use Rattle.word_lines.proofs.trees.push_spaces.Goals as goal

pub spaces-preserved : goal.spaces-preserved
spaces-preserved c =
    let within = c.spaces.invariant.0 in
    let few : c.min-some.result ≤ c.spaces.left = omega (arith, c.min-some.ensures) in
    let less : c.spaces.left - c.min-some.result ≤ c.args.count = omega (arith, within) in
    let end = ap (λ n. n + c.min-some.result) c.len.ensures in
    (less, some_more c.args.text.now.items c.spaces.text.items c.resize.new.self.items c.args.count c.spaces.left c.min-some.result (c.len.result + c.min-some.result) c.spaces.text.len within few c.spaces.invariant.1 end c.spaces.text.ok.0 c.in_ok-resize.ensures.items)
