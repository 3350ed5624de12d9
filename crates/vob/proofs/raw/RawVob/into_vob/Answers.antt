use Rattle.vob.proofs.Pack as pack
use Rattle.vob.proofs.Tested as tested
use Rattle.vob.proofs.raw.RawVob.into_vob.Goals as goal

pub invariant_of-result : goal.invariant_of-result
invariant_of-result g c =
    let bits = g.T.Word.bits in
    let w = g.T.Word.BITS in
    let each = pack.width_of bits w g.T.Word.number g.met.T.Word.number_law in
    tested.packs bits w each c.as_slice.ensures.value (c.spells.ensures.0 c.if-not-spells.false)
