use Rattle.vob.proofs.Pack as pack
use Rattle.vob.proofs.packed.copy_blocks.Goals as goal

pub returns-in_err-made-clause-empty : goal.returns-in_err-made-clause-empty
returns-in_err-made-clause-empty g c none =
    let bits = g.T.Word.bits in
    let w = g.T.Word.BITS in
    let each = pack.width_of bits w g.T.Word.number g.met.T.Word.number_law in
    let taken = c.in_err-made.ensures.succeeds (pack.no_blocks bits w each c.args.blocks.now c.args.len g.met.T.Word.some_law c.requires none) in cc
