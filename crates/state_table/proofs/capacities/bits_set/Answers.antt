use Rattle.std.proofs.Common.{◌-◌, ◌^◌, ◌≤◌, min, ap, ◌∙◌, arith}
use Rattle.vob.specs.Bits.{count_true}
use Rattle.state_table.proofs.BitCounts.{count-le, count-padded, cut-whole}
use Rattle.state_table.proofs.capacities.bits_set.Goals as goal

pub returns : goal.returns
returns c =
    let all = c.args.set.now.bits in
    let stored = ap count_true c.get_storage.ensures ∙ count-padded all _ in
    let within : count_true all ≤ c.len.result = omega (arith, count-le all, c.len.ensures) in
    let fits : c.len.result ≤ 2 ^ 64 - 1 = omega (arith, c.len.type_inv) in
    c.min.ensures ∙ ap (λ n. min n c.len.result) (c.bits_in.ensures ∙ ap (λ n. min n (2 ^ 64 - 1)) stored) ∙ cut-whole (count_true all) c.len.result (2 ^ 64 - 1) within fits
