use Rattle.std.proofs.Common.{◌≡◌, ◌*◌, length, sym, ap, ◌∙◌, arith}
use Rattle.std.specs.List.{flat_map}
use Rattle.std.specs.Vec.{vec_capacity}
use Rattle.vob.proofs.Pack as pack
use Rattle.vob.proofs.Shifted as shift
use Rattle.vob.proofs.Vob.shrink_to_fit.Goals as goal

pub returns-clause-frees : goal.returns-clause-frees
returns-clause-frees g c h =
    let bits = g.T.Word.bits in
    let w = g.T.Word.BITS in
    let some = g.met.T.Word.some_law in
    let each = pack.width_of bits w g.T.Word.number g.met.T.Word.number_law in
    let n = c.self.inside.len in
    let xs = c.self.inside.blocks in
    let len : length c.args.self.now.bits ≡ n = ap (λ b. length b.bits) (sym c.self.view_is) ∙ pack.length_kept w n (flat_map bits xs.items) some c.self.invariant in
    let count = pack.blocks_are bits w each xs.items n some c.self.invariant in
    let none = shift.at_most w n 0 some (omega arith) in
    let free = c.shrink_to_fit.ensures.frees (omega (arith, xs.ok.0)) in
    let room : vec_capacity c.shrink_to_fit.new.self * w ≡ 0 = ap (λ k. k * w) free ∙ (omega arith) in
    omega arith
