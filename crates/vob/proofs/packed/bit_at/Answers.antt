use Rattle.std.proofs.Common.{◌∙◌, rules}
use Rattle.vob.proofs.Pack as pack
use Rattle.vob.proofs.packed.bit_at.Goals as goal

pub bounds-blocks-index : goal.bounds-blocks-index
bounds-blocks-index g c =
    let bits = g.T.Word.bits in
    let w = g.T.Word.BITS in
    let some = g.met.T.Word.some_law in
    let each = pack.width_of bits w g.T.Word.number g.met.T.Word.number_law in
    pack.block_below bits w each c.args.blocks.now c.args.index c.BITS-width.result some c.BITS-width.ensures c.requires

pub offset_bounds-blocks-index : goal.offset_bounds-blocks-index
offset_bounds-blocks-index g c =
    let bits = g.T.Word.bits in
    let w = g.T.Word.BITS in
    let some = g.met.T.Word.some_law in
    let each = pack.width_of bits w g.T.Word.number g.met.T.Word.number_law in
    let h = pack.block_below bits w each c.args.blocks.now c.args.index c.BITS-width.result some c.BITS-width.ensures c.requires in
    search rules

pub returns : goal.returns
returns g c =
    let bits = g.T.Word.bits in
    let w = g.T.Word.BITS in
    let some = g.met.T.Word.some_law in
    let each = pack.width_of bits w g.T.Word.number g.met.T.Word.number_law in
    c.digit.ensures ∙ pack.bit_there bits w each c.args.blocks.now c.args.index c.BITS-width.result c.index-blocks-index.result some c.BITS-width.ensures c.requires c.index-blocks-index.is
