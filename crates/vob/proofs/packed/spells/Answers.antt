use Rattle.std.proofs.Common.{◌≡◌, ◌-◌, ◌/◌, ◌%◌, false, ◌++◌, length, get_or, refl, subst, arith, replicate, take}
use Rattle.vob.specs.Packed.{blocks_for}
use Rattle.vob.proofs.Pack as pack
use Rattle.vob.proofs.packed.spells.Goals as goal

pub returns-then-len-width-eq0 : goal.returns-then-len-width-eq0
returns-then-len-width-eq0 g c =
    let bits = g.T.Word.bits in
    let w = g.T.Word.BITS in
    let some = g.met.T.Word.some_law in
    let each = pack.width_of bits w g.T.Word.number g.met.T.Word.number_law in
    let xs = c.args.blocks.now in
    let n = c.args.len in
    let e : length xs ≡ blocks_for w n = omega arith in
    let whole : n % w ≡ 0 = subst (λ b. n % b ≡ 0) c.BITS-width.ensures c.if-len-width-eq0.true in
    (λ t. (e, pack.whole_spelled bits w each xs n some e whole), λ h. refl)

pub returns : goal.returns
returns g c =
    let bits = g.T.Word.bits in
    let w = g.T.Word.BITS in
    let some = g.met.T.Word.some_law in
    let each = pack.width_of bits w g.T.Word.number g.met.T.Word.number_law in
    let xs = c.args.blocks.now in
    let n = c.args.len in
    let b = c.BITS-width.result in
    let x = c.index-blocks-len.result in
    let e : length xs ≡ blocks_for w n = omega arith in
    let part : n % w ≡ 0 → ⊥ = subst (λ b. n % b ≡ 0 → ⊥) c.BITS-width.ensures c.if-len-width-eq0.false in
    let is : x ≡ get_or xs (n / w) x = subst (λ b. x ≡ get_or xs (n / b) x) c.BITS-width.ensures c.index-blocks-len.is in
    let low : bits c.low_part.result ≡ take (n % w) (bits x) ++ replicate (w - n % w) false = subst (λ b. bits c.low_part.result ≡ take (n % b) (bits x) ++ replicate (w - n % b) false) c.BITS-width.ensures c.low_part.ensures in
    pack.part_spelled bits w each xs n x c.low_part.result c.is_same.result some e part is low c.is_same.ensures
