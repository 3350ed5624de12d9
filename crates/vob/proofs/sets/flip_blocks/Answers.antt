use Rattle.std.proofs.Common.{◌<◌, length, ◌∙◌, arith}
use Rattle.vob.proofs.Pack as pack
use Rattle.vob.proofs.Setwise as setwise
use Rattle.vob.proofs.Setwise.{same_bits}
use Rattle.std.proofs.lemmas.List.{length-set}
use Rattle.vob.proofs.sets.flip_blocks.Goals as goal

pub each-preserved : goal.each-preserved
each-preserved g c =
    let bits = g.T.Word.bits in
    let w = g.T.Word.BITS in
    let some = g.met.T.Word.some_law in
    let each = pack.width_of bits w g.T.Word.number g.met.T.Word.number_law in
    let xs = c.each.blocks.items in
    let init = c.args.blocks.now.items in
    let k = c.each.k in
    let x = c.index.result.now in
    let y = c.turn_bits.result in
    let v = c.each.invariant in
    let h : k < length xs = omega (arith, v.size, c.args.blocks.now.ok.0) in
    record {
      size = length-set xs k y ∙ v.size;
      capacity = v.capacity;
      rest = setwise.rest_more bits w each xs init k y v.rest;
      done = setwise.flipped_more bits w each xs init k x y v.size h v.rest v.done c.index.ensures c.turn_bits.ensures;
    }
