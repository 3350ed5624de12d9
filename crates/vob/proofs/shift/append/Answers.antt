use Rattle.std.proofs.Common.{◌≡◌, ◌+◌, ◌*◌, ◌/◌, ◌%◌, ◌<◌, false, [], ◌∷◌, ◌++◌, length, ap, ◌∙◌, subst, arith, replicate, take, drop}
use Rattle.std.specs.List.{flat_map}
use Rattle.vob.proofs.Pack as pack
use Rattle.vob.proofs.Shifted as shift
use Rattle.vob.proofs.shift.append.Goals as goal

pub each-preserved : goal.each-preserved
each-preserved g c =
    let bits = g.T.Word.bits in
    let w = g.T.Word.BITS in
    let some = g.met.T.Word.some_law in
    let each = pack.width_of bits w g.T.Word.number g.met.T.Word.number_law in
    let e = c.BITS-width.ensures in
    let from = c.args.from in
    let k = c.each.k in
    let all = flat_map bits c.args.others.now in
    let xs = c.each.blocks.items in
    let b = c.block_from.result in
    let h : from / w + k < length c.args.others.now = omega (arith, c.requires.there) in
    let is : bits b ≡ take w (drop ((from / w + k) * w + from % w) all ++ replicate (from % w) false) =
    subst (λ v. bits b ≡ take w (drop ((from / v + k) * w + from % v) all ++ replicate (from % v) false)) e c.block_from.ensures in
    let items : c.push.new.self.items ≡ xs ++ b ∷ [] = shift.taken c.push.result c.unwrap.result _ _ _ c.unwrap.ensures c.push.ensures.items in
    let size = shift.taken c.push.result c.unwrap.result _ _ _ c.unwrap.ensures c.push.ensures.len in
    record {
      done = ap (flat_map bits) items ∙ shift.one_more bits w each xs c.args.others.now b (flat_map bits c.args.blocks.now.items) from k some h c.each.invariant.done is;
      size = omega (arith, size, c.each.invariant.size);
      room = omega (arith, c.push.ensures.capacity, c.each.invariant.room);
    }
