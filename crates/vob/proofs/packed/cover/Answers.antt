use Rattle.std.proofs.Common.{◌≡◌, ◌%◌, ◌≤◌, [], ◌∷◌, ap, ◌∙◌, subst, arith}
use Rattle.std.specs.List.{flat_map}
use Rattle.vob.specs.Packed.{blocks_for}
use Rattle.vob.proofs.Pack as pack
use Rattle.std.specs.Vec.{vec_capacity}
use Rattle.std.proofs.lemmas.List.Concat.{flat_map-append}
use Rattle.vob.proofs.packed.cover.Goals as goal

pub returns-in_err-push-clause-full : goal.returns-in_err-push-clause-full
returns-in_err-push-clause-full g c =
    let bits = g.T.Word.bits in
    let w = g.T.Word.BITS in
    let some = g.met.T.Word.some_law in
    let each = pack.width_of bits w g.T.Word.number g.met.T.Word.number_law in
    let n = c.args.len in
    let b = c.args.blocks.now in
    let whole : n % w ≡ 0 = subst (λ k. n % k ≡ 0) c.BITS.ensures c.if-len-BITS-eq0.true in
    let e = pack.blocks_for_whole w n some whole in
    let k = pack.blocks_are bits w each b.items n some c.requires in
    let full : vec_capacity b ≤ blocks_for w n = omega (arith, c.in_err-push.ensures.full, b.ok.0) in
    let le = pack.times_mono (vec_capacity b) (blocks_for w n) w full in
    pack.on_err c.from_residual.result _ (omega arith)

pub returns-in_ok-push-clause-ok : goal.returns-in_ok-push-clause-ok
returns-in_ok-push-clause-ok g c =
    let bits = g.T.Word.bits in
    let w = g.T.Word.BITS in
    let some = g.met.T.Word.some_law in
    let each = pack.width_of bits w g.T.Word.number g.met.T.Word.number_law in
    let n = c.args.len in
    let xs = c.args.blocks.now.items in
    let whole : n % w ≡ 0 = subst (λ b. n % b ≡ 0) c.BITS.ensures c.if-len-BITS-eq0.true in
    ap (flat_map bits) c.in_ok-push.ensures.items ∙ flat_map-append bits xs (c.all.result ∷ []) ∙ pack.covered_by_block w n (flat_map bits xs) (bits c.all.result) some c.requires whole c.all.ensures

pub returns-else-len-BITS-eq0-clause-ok : goal.returns-else-len-BITS-eq0-clause-ok
returns-else-len-BITS-eq0-clause-ok g c =
    let bits = g.T.Word.bits in
    let w = g.T.Word.BITS in
    let some = g.met.T.Word.some_law in
    let each = pack.width_of bits w g.T.Word.number g.met.T.Word.number_law in
    let n = c.args.len in
    let part : n % w ≡ 0 → ⊥ = subst (λ b. n % b ≡ 0 → ⊥) c.BITS.ensures c.if-len-BITS-eq0.false in
    pack.covered w n (flat_map bits c.args.blocks.now.items) some c.requires part
