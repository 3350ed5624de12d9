use Rattle.std.proofs.Common.{◌*◌, ◌-◌, length, false, not, map, replicate, sym, ap, ◌∙◌}
use Rattle.std.proofs.lemmas.List.{map-append, length-map}
use Rattle.vob.specs.Packed.{blocks_for}
use Rattle.vob.proofs.Pack as pack
use Rattle.vob.proofs.Meeting.{as_many, meets_padded, holds_if, lacks_if}
use Rattle.vob.proofs.Vob.holds.Goals as goal

pub blocks_lack-requires : goal.blocks_lack-requires
blocks_lack-requires g c =
    let bits = g.T.Word.bits in
    let w = g.T.Word.BITS in
    let some = g.met.T.Word.some_law in
    let each = pack.width_of bits w g.T.Word.number g.met.T.Word.number_law in
    as_many bits w each c.args.other.now.bits c.args.self.now.bits c.get_storage.result.now c.get_storage-2.result.now some (sym c.requires) c.get_storage.ensures c.get_storage-2.ensures

pub returns-clause-holds : goal.returns-clause-holds
returns-clause-holds g c =
    let w = g.T.Word.BITS in
    let a = c.args.self.now.bits in
    let b = c.args.other.now.bits in
    let unused = replicate (blocks_for w (length a) * w - length a) false in
    let p = meets_padded b (map not a) _ _ (blocks_for w (length b) * w - length b) (map not unused) (sym c.requires ∙ sym (length-map a not)) c.get_storage.ensures (ap (map not) c.get_storage-2.ensures ∙ map-append not a unused) in
    holds_if c.blocks_lack.result a b c.requires (λ h. p.0 (c.blocks_lack.ensures.0 h), λ m. c.blocks_lack.ensures.1 (p.1 m))

pub returns-clause-lacks : goal.returns-clause-lacks
returns-clause-lacks g c =
    let w = g.T.Word.BITS in
    let a = c.args.self.now.bits in
    let b = c.args.other.now.bits in
    let unused = replicate (blocks_for w (length a) * w - length a) false in
    let p = meets_padded b (map not a) _ _ (blocks_for w (length b) * w - length b) (map not unused) (sym c.requires ∙ sym (length-map a not)) c.get_storage.ensures (ap (map not) c.get_storage-2.ensures ∙ map-append not a unused) in
    lacks_if c.blocks_lack.result a b (λ h. p.0 (c.blocks_lack.ensures.0 h), λ m. c.blocks_lack.ensures.1 (p.1 m))
