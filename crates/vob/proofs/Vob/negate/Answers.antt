use Rattle.std.proofs.Common.{◌≡◌, ◌-◌, ◌*◌, not, length, sym, ap, ◌∙◌, take, map}
use Rattle.std.specs.List.{flat_map}
use Rattle.vob.specs.Packed.{blocks_for}
use Rattle.vob.proofs.Pack as pack
use Rattle.vob.proofs.Setwise as setwise
use Rattle.std.proofs.lemmas.List.{take-map, length-map}
use Rattle.vob.proofs.Vob.negate.Goals as goal

pub returns-clause-bits : goal.returns-clause-bits
returns-clause-bits g c =
    let bits = g.T.Word.bits in
    let w = g.T.Word.BITS in
    let some = g.met.T.Word.some_law in
    let each = pack.width_of bits w g.T.Word.number g.met.T.Word.number_law in
    let n = c.self.inside.len in
    let all = flat_map bits c.self.inside.blocks.items in
    let len : length c.args.self.now.bits ≡ n = ap (λ b. length b.bits) (sym c.self.view_is) ∙ pack.length_kept w n all some c.self.invariant in
    let now = flat_map bits c.flip_blocks.new.blocks.items in
    let items = map not (take n all) in
    let front : take n now ≡ items = ap (take n) c.flip_blocks.ensures.bits ∙ take-map not n all in
    let size : length now ≡ blocks_for w n * w = ap length c.flip_blocks.ensures.bits ∙ length-map all not ∙ c.self.invariant.count in
    let is = setwise.refilled_is w n now (flat_map bits c.fill_above.new.blocks.items) items some size front c.fill_above.ensures.bits in
    pack.kept n (blocks_for w n * w - n) items (flat_map bits c.fill_above.new.blocks.items) is (length-map (take n all) not ∙ pack.length_kept w n all some c.self.invariant) ∙ ap (λ b. map not b.bits) c.self.view_is
