use Rattle.std.proofs.Common.{◌≡◌, ◌<◌, false, length, sym, ◌∙◌, arith}
use Rattle.vob.proofs.Pack as pack
use Rattle.vob.proofs.Setwise as setwise
use Rattle.vob.proofs.Setwise.{same_bits}
use Rattle.vob.proofs.sets.same_blocks.Goals as goal

pub returns-then-not-is_same : goal.returns-then-not-is_same
returns-then-not-is_same g c =
    let bits = g.T.Word.bits in
    let w = g.T.Word.BITS in
    let some = g.met.T.Word.some_law in
    let each = pack.width_of bits w g.T.Word.number g.met.T.Word.number_law in
    let xs = c.args.a.now in
    let ys = c.args.b.now in
    let x = c.index-a-k.result in
    let y = c.index-b-k.result in
    let h : c.each.k < length xs = omega arith in
    let s : c.is_same.result ≡ false = c.if-not-is_same.true in
    (λ t. absurd (pack.false_is_true t), λ e. absurd (pack.false_is_true (sym s ∙ c.is_same.ensures.1 (setwise.equal_block bits w each xs ys c.each.k x y c.requires h e c.index-a-k.is c.index-b-k.is))))
