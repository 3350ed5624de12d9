use Rattle.std.proofs.Common.{rules}
use Rattle.vob.proofs.Pack as pack
use Rattle.vob.proofs.packed.put_bit.Goals as goal

pub index_mut-block-requires : goal.index_mut-block-requires
index_mut-block-requires g c =
    let bits = g.T.Word.bits in
    let w = g.T.Word.BITS in
    let some = g.met.T.Word.some_law in
    let each = pack.width_of bits w g.T.Word.number g.met.T.Word.number_law in
    let h = pack.block_below bits w each c.args.blocks.now.items c.args.index c.BITS-width.result some c.BITS-width.ensures c.requires in
    search rules

pub returns-clause-bits : goal.returns-clause-bits
returns-clause-bits g c =
    let bits = g.T.Word.bits in
    let w = g.T.Word.BITS in
    let some = g.met.T.Word.some_law in
    let each = pack.width_of bits w g.T.Word.number g.met.T.Word.number_law in
    pack.bit_written bits w each c.args.blocks.now.items c.args.index c.BITS-width.result c.index_mut-block.result.now c.with_digit.result c.args.value some c.BITS-width.ensures c.requires c.index_mut-block.ensures.value c.with_digit.ensures
