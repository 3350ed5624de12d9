use Rattle.std.proofs.Common.{◌≡◌, ◌+◌, ◌-◌, ◌^◌, get_or, take, min, ap, sym, ◌∙◌}
use Rattle.std.specs.List.{flat_map}
use Rattle.vob.specs.Bits.{count_true}
use Rattle.state_table.proofs.BitCounts.{count-more, cut-more}
use Rattle.state_table.proofs.capacities.bits_in.Goals as goal

pub each-preserved : goal.each-preserved
each-preserved g c =
    let bits = g.T.Word.bits in
    let blocks = c.args.blocks.now in
    let x = c.index-blocks-k.result in
    let before = count_true (flat_map bits (take c.each.k blocks)) in
    let here : c.set_count.result ≡ count_true (bits (get_or blocks c.each.k x)) = c.set_count.ensures ∙ ap (λ b. count_true (bits b)) c.index-blocks-k.is in
    let more = count-more bits blocks c.each.k x c.each-test.true in
    c.saturating_add-count.ensures ∙ ap (λ n. min (n + c.set_count.result) (2 ^ 64 - 1)) c.each.invariant ∙ cut-more before c.set_count.result (2 ^ 64 - 1) ∙
    ap (λ n. min (before + n) (2 ^ 64 - 1)) here ∙ ap (λ n. min n (2 ^ 64 - 1)) (sym more)
