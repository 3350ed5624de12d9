use Rattle.std.proofs.Common.{◌≡◌, ◌-◌, ◌*◌, false, ◌++◌, length, sym, ap, ap₂, ◌∙◌, replicate, take}
use Rattle.std.specs.List.{flat_map}
use Rattle.vob.specs.Packed.{blocks_for}
use Rattle.vob.proofs.Pack as pack
use Rattle.vob.proofs.Vob.into_raw.Goals as goal

pub returns-clause-count : goal.returns-clause-count
returns-clause-count g c =
    let bits = g.T.Word.bits in
    let w = g.T.Word.BITS in
    let some = g.met.T.Word.some_law in
    let each = pack.width_of bits w g.T.Word.number g.met.T.Word.number_law in
    let n = c.self.inside.len in
    let all = flat_map bits c.self.inside.blocks.items in
    let view : take n all ≡ c.args.self.bits = ap (λ b. b.bits) c.self.view_is in
    let len : length c.args.self.bits ≡ n = ap length (sym view) ∙ pack.length_kept w n all some c.self.invariant in
    pack.blocks_are bits w each c.self.inside.blocks.items n some c.self.invariant ∙ ap (blocks_for w) (sym len)

pub returns-clause-blocks : goal.returns-clause-blocks
returns-clause-blocks g c =
    let bits = g.T.Word.bits in
    let w = g.T.Word.BITS in
    let some = g.met.T.Word.some_law in
    let each = pack.width_of bits w g.T.Word.number g.met.T.Word.number_law in
    let n = c.self.inside.len in
    let all = flat_map bits c.self.inside.blocks.items in
    let view : take n all ≡ c.args.self.bits = ap (λ b. b.bits) c.self.view_is in
    let len : length c.args.self.bits ≡ n = ap length (sym view) ∙ pack.length_kept w n all some c.self.invariant in
    pack.opened w n all c.self.invariant ∙ ap₂ (λ xs k. xs ++ replicate (blocks_for w k * w - k) false) view (sym len)
