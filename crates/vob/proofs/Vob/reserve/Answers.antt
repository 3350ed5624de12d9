use Rattle.std.proofs.Common.{◌≡◌, ◌≤◌, ◌+◌, ◌*◌, length, sym, ap, ◌∙◌, arith}
use Rattle.std.specs.List.{flat_map}
use Rattle.std.specs.Vec.{vec_capacity}
use Rattle.vob.specs.Packed.{blocks_for}
use Rattle.vob.proofs.Pack as pack
use Rattle.vob.proofs.Rooms as rooms
use Rattle.vob.proofs.Vob.reserve.Goals as goal

pub returns-in_err-reserve-clause-room : goal.returns-in_err-reserve-clause-room
returns-in_err-reserve-clause-room g c =
    let w = g.T.Word.BITS in
    let some = g.met.T.Word.some_law in
    let n = c.self.inside.len in
    let len : length c.args.self.now.bits ≡ n = ap (λ b. length b.bits) (sym c.self.view_is) ∙ pack.length_kept w n (flat_map g.T.Word.bits c.self.inside.blocks.items) some c.self.invariant in
    let was = ap (λ b. b.capacity) c.self.view_is in
    let count : c.blocks_for-count.result ≡ blocks_for w (n + c.args.additional) = c.blocks_for-count.ensures ∙ ap (blocks_for w) c.in-Some.ensures.1 in
    let rest = c.saturating_sub.ensures in
    let blocks = c.len.ensures in
    let taken = c.self.inside.blocks.ok in
    λ h. let fits : n + c.args.additional ≤ vec_capacity c.self.inside.blocks * w = omega arith in
    let enough = rooms.blocks_fit w (n + c.args.additional) (vec_capacity c.self.inside.blocks) some fits in
    absurd (omega (arith, c.in_err-reserve.ensures.full))

pub returns-clause-ok : goal.returns-clause-ok
returns-clause-ok g c =
    let w = g.T.Word.BITS in
    let some = g.met.T.Word.some_law in
    let n = c.self.inside.len in
    let len : length c.args.self.now.bits ≡ n = ap (λ b. length b.bits) (sym c.self.view_is) ∙ pack.length_kept w n (flat_map g.T.Word.bits c.self.inside.blocks.items) some c.self.invariant in
    let count : c.blocks_for-count.result ≡ blocks_for w (n + c.args.additional) = c.blocks_for-count.ensures ∙ ap (blocks_for w) c.in-Some.ensures.1 in
    let rest = c.saturating_sub.ensures in
    let blocks = c.len.ensures in
    let same = c.reserve.ensures.len in
    let enough : blocks_for w (n + c.args.additional) ≤ vec_capacity c.reserve.new.self = omega (arith, c.in_ok-reserve.ensures.ok) in
    let fits = rooms.items_fit w (n + c.args.additional) (vec_capacity c.reserve.new.self) some enough in
    let most = c.in-Some.ensures.0 in
    omega arith
