use Rattle.std.proofs.Common.{◌∙◌, refl, ap, subst₂, arith}
use Rattle.std.specs.List.{flat_map}
use Rattle.std.proofs.lemmas.List.{take_all}
use Rattle.vob.specs.Bits.{Meets, bitwise}
use Rattle.vob.proofs.Pack as pack
use Rattle.vob.proofs.Meeting.{turned, block_meets, none_more, one_meets}
use Rattle.vob.proofs.sets.blocks_meet.Goals as goal

pub each-preserved : goal.each-preserved
each-preserved g c =
    let bits = g.T.Word.bits in
    let w = g.T.Word.BITS in
    let each = pack.width_of bits w g.T.Word.number g.met.T.Word.number_law in
    let z = c.clear_below.ensures in
    let is = c.BITS.ensures in
    let far = c.if-clear_below-BITS.false in
    let x = c.index-blocks-k.result in
    let y = c.index-others-k.result in
    let v = c.args.value in
    let made = c.in_both-common.ensures ∙ ap (bitwise _ (bits x)) c.matching.ensures in
    none_more bits w each c.args.blocks.now c.args.others.now c.each.k x y v c.requires c.each-test.true c.index-blocks-k.is c.index-others-k.is c.each.invariant
    ((block_meets bits w each x c.in_both-common.result (turned v (bits y)) c.clear_below.result made z.found z.before).1 (omega (arith, is, far)))

pub returns-then-clear_below-BITS : goal.returns-then-clear_below-BITS
returns-then-clear_below-BITS g c =
    let bits = g.T.Word.bits in
    let w = g.T.Word.BITS in
    let each = pack.width_of bits w g.T.Word.number g.met.T.Word.number_law in
    let z = c.clear_below.ensures in
    let is = c.BITS.ensures in
    let near = c.if-clear_below-BITS.true in
    let x = c.index-blocks-k.result in
    let y = c.index-others-k.result in
    let v = c.args.value in
    let made = c.in_both-common.ensures ∙ ap (bitwise _ (bits x)) c.matching.ensures in
    let m = one_meets bits w each c.args.blocks.now c.args.others.now c.each.k x y v c.requires c.each-test.true c.index-blocks-k.is c.index-others-k.is
    ((block_meets bits w each x c.in_both-common.result (turned v (bits y)) c.clear_below.result made z.found z.before).0 (omega (arith, is, near))) in
    (λ _. m, λ _. refl)

pub returns : goal.returns
returns g c =
    let bits = g.T.Word.bits in
    let n = c.requires in
    let le = c.each-test.false in
    let none = subst₂ (λ p q. Meets (flat_map bits p) (turned c.args.value (flat_map bits q)) → ⊥) (take_all c.each.k c.args.blocks.now le) (take_all c.each.k c.args.others.now (omega (arith, n, le))) c.each.invariant in
    (λ e. absurd (pack.false_is_true e), λ m. absurd (none m))
