use Rattle.std.proofs.Common.{refl, arith, take}
use Rattle.std.specs.List.{flat_map}
use Rattle.vob.proofs.Pack as pack
use Rattle.vob.proofs.Setwise as setwise
use Rattle.vob.proofs.packed.mask.Goals as goal

pub fill_above-requires : goal.fill_above-requires
fill_above-requires g c =
    let bits = g.T.Word.bits in
    let w = g.T.Word.BITS in
    let some = g.met.T.Word.some_law in
    let each = pack.width_of bits w g.T.Word.number g.met.T.Word.number_law in
    let l = pack.counted_length bits w each c.args.blocks.now.items c.args.len c.requires in
    omega arith

pub returns-clause-bits : goal.returns-clause-bits
returns-clause-bits g c =
    let bits = g.T.Word.bits in
    let w = g.T.Word.BITS in
    let some = g.met.T.Word.some_law in
    let each = pack.width_of bits w g.T.Word.number g.met.T.Word.number_law in
    let xs = c.args.blocks.now.items in
    let n = c.args.len in
    let all = flat_map bits xs in
    setwise.refilled_is w n all (flat_map bits c.fill_above.new.blocks.items) (take n all) some (pack.counted_length bits w each xs n c.requires) refl c.fill_above.ensures.bits
