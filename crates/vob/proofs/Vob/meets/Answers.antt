use Rattle.std.proofs.Common.{◌*◌, ◌-◌, length, false, replicate}
use Rattle.vob.specs.Packed.{blocks_for}
use Rattle.vob.proofs.Pack as pack
use Rattle.vob.proofs.Meeting.{as_many, meets_padded, apart_if}
use Rattle.vob.proofs.Vob.meets.Goals as goal

pub blocks_meet-requires : goal.blocks_meet-requires
blocks_meet-requires g c =
    let bits = g.T.Word.bits in
    let w = g.T.Word.BITS in
    let some = g.met.T.Word.some_law in
    let each = pack.width_of bits w g.T.Word.number g.met.T.Word.number_law in
    as_many bits w each c.args.self.now.bits c.args.other.now.bits c.get_storage.result.now c.get_storage-2.result.now some c.requires c.get_storage.ensures c.get_storage-2.ensures

pub returns-clause-meets : goal.returns-clause-meets
returns-clause-meets g c =
    let w = g.T.Word.BITS in
    let a = c.args.self.now.bits in
    let b = c.args.other.now.bits in
    let p = meets_padded a b _ _ (blocks_for w (length a) * w - length a) (replicate (blocks_for w (length b) * w - length b) false) c.requires c.get_storage.ensures c.get_storage-2.ensures in
    (λ h. p.0 (c.blocks_meet.ensures.0 h), λ m. c.blocks_meet.ensures.1 (p.1 m))

pub returns-clause-apart : goal.returns-clause-apart
returns-clause-apart g c =
    let w = g.T.Word.BITS in
    let a = c.args.self.now.bits in
    let b = c.args.other.now.bits in
    let p = meets_padded a b _ _ (blocks_for w (length a) * w - length a) (replicate (blocks_for w (length b) * w - length b) false) c.requires c.get_storage.ensures c.get_storage-2.ensures in
    apart_if c.blocks_meet.result a b (λ h. p.0 (c.blocks_meet.ensures.0 h), λ m. c.blocks_meet.ensures.1 (p.1 m))
