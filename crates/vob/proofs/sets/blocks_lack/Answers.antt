use Rattle.std.proofs.Common.{◌≡◌, ◌↔◌, true, false, ◌∙◌, refl, sym, ap, subst₂, arith}
use Rattle.std.specs.List.{flat_map}
use Rattle.std.proofs.lemmas.List.{take_all}
use Rattle.vob.specs.Bits.{Meets, bitwise}
use Rattle.vob.proofs.Pack as pack
use Rattle.vob.proofs.Meeting.{HasOne, turned, has_one, sees_none, sees_more}
use Rattle.vob.proofs.sets.blocks_lack.Goals as goal

pub each-init : goal.each-init
each-init g c =
    let bits = g.T.Word.bits in
    let w = g.T.Word.BITS in
    let each = pack.width_of bits w g.T.Word.number g.met.T.Word.number_law in
    sees_none bits w each c.args.blocks.now c.args.others.now c.all-lacking.result false w c.all-lacking.ensures

pub each-preserved : goal.each-preserved
each-preserved g c =
    let bits = g.T.Word.bits in
    let w = g.T.Word.BITS in
    let each = pack.width_of bits w g.T.Word.number g.met.T.Word.number_law in
    let x = c.index-blocks-k.result in
    let y = c.index-others-k.result in
    sees_more bits w each c.args.blocks.now c.args.others.now c.each.k x y false c.requires c.each-test.true c.index-blocks-k.is c.index-others-k.is
    c.each.lacking c.in_both-alone.result c.in_either-lacking.result (c.in_both-alone.ensures ∙ ap (bitwise _ (bits x)) c.turn_bits.ensures) c.in_either-lacking.ensures c.each.invariant

pub returns-then-clear_below-BITS : goal.returns-then-clear_below-BITS
returns-then-clear_below-BITS g c =
    let bits = g.T.Word.bits in
    let w = g.T.Word.BITS in
    let each = pack.width_of bits w g.T.Word.number g.met.T.Word.number_law in
    let z = c.clear_below.ensures in
    let is = c.BITS.ensures in
    let near = c.if-clear_below-BITS.true in
    let n = c.requires in
    let le = c.each-test.false in
    let whole = subst₂ (λ p q. HasOne (bits c.each.lacking) ↔ Meets (flat_map bits p) (turned false (flat_map bits q))) (take_all c.each.k c.args.blocks.now le) (take_all c.each.k c.args.others.now (omega (arith, n, le))) c.each.invariant in
    let m = whole.0 ((has_one bits w each c.each.lacking c.clear_below.result z.found z.before).0 (omega (arith, is, near))) in
    (λ _. m, λ _. refl)

pub returns : goal.returns
returns g c =
    let bits = g.T.Word.bits in
    let w = g.T.Word.BITS in
    let each = pack.width_of bits w g.T.Word.number g.met.T.Word.number_law in
    let z = c.clear_below.ensures in
    let is = c.BITS.ensures in
    let far = c.if-clear_below-BITS.false in
    let n = c.requires in
    let le = c.each-test.false in
    let whole = subst₂ (λ p q. HasOne (bits c.each.lacking) ↔ Meets (flat_map bits p) (turned false (flat_map bits q))) (take_all c.each.k c.args.blocks.now le) (take_all c.each.k c.args.others.now (omega (arith, n, le))) c.each.invariant in
    (λ e. absurd (pack.false_is_true e), λ m. absurd ((has_one bits w each c.each.lacking c.clear_below.result z.found z.before).1 (omega (arith, is, far)) (whole.1 m)))
