use Rattle.std.proofs.Common.{◌≡◌, ◌-◌, ◌*◌, length, sym, ap, ◌∙◌, arith, replicate, take}
use Rattle.std.specs.List.{flat_map}
use Rattle.vob.specs.Packed.{blocks_for}
use Rattle.vob.proofs.Pack as pack
use Rattle.vob.proofs.Setwise as setwise
use Rattle.std.proofs.lemmas.List.{take-replicate, length-replicate}
use Rattle.vob.proofs.Vob.set_all.Goals as goal

pub fill_above-requires : goal.fill_above-requires
fill_above-requires g c =
    let bits = g.T.Word.bits in
    let w = g.T.Word.BITS in
    let some = g.met.T.Word.some_law in
    let each = pack.width_of bits w g.T.Word.number g.met.T.Word.number_law in
    let n = c.self.inside.len in
    let all = flat_map bits c.self.inside.blocks.items in
    let len : length c.args.self.now.bits ≡ n = ap (λ b. length b.bits) (sym c.self.view_is) ∙ pack.length_kept w n all some c.self.invariant in
    let room = pack.blocks_for_is w n some in
    let v = c.args.value in
    let count = pack.blocks_are bits w each c.self.inside.blocks.items n some c.self.invariant in
    let now = flat_map bits c.fill_blocks.new.blocks.items in
    let filled : now ≡ replicate (blocks_for w n * w) v = ap (flat_map bits) c.fill_blocks.ensures.items ∙ pack.spelled-replicate bits w each (length c.self.inside.blocks.items) c.all.result v c.all.ensures ∙ ap (λ k. replicate (k * w) v) count in
    let size : length now ≡ blocks_for w n * w = ap length filled ∙ length-replicate (blocks_for w n * w) v in
    omega arith

pub invariant_of-self : goal.invariant_of-self
invariant_of-self g c =
    let bits = g.T.Word.bits in
    let w = g.T.Word.BITS in
    let some = g.met.T.Word.some_law in
    let each = pack.width_of bits w g.T.Word.number g.met.T.Word.number_law in
    let n = c.self.inside.len in
    let all = flat_map bits c.self.inside.blocks.items in
    let len : length c.args.self.now.bits ≡ n = ap (λ b. length b.bits) (sym c.self.view_is) ∙ pack.length_kept w n all some c.self.invariant in
    let room = pack.blocks_for_is w n some in
    let v = c.args.value in
    let count = pack.blocks_are bits w each c.self.inside.blocks.items n some c.self.invariant in
    let now = flat_map bits c.fill_blocks.new.blocks.items in
    let filled : now ≡ replicate (blocks_for w n * w) v = ap (flat_map bits) c.fill_blocks.ensures.items ∙ pack.spelled-replicate bits w each (length c.self.inside.blocks.items) c.all.result v c.all.ensures ∙ ap (λ k. replicate (k * w) v) count in
    let size : length now ≡ blocks_for w n * w = ap length filled ∙ length-replicate (blocks_for w n * w) v in
    let front : take n now ≡ replicate n v = ap (take n) filled ∙ take-replicate n (blocks_for w n * w) v room.0 in
    let last = flat_map bits c.fill_above.new.blocks.items in
    let is = setwise.refilled_is w n now last (replicate n v) some size front c.fill_above.ensures.bits in
    pack.closed w n (replicate n v) last some is (length-replicate n v)

pub returns-clause-bits : goal.returns-clause-bits
returns-clause-bits g c =
    let bits = g.T.Word.bits in
    let w = g.T.Word.BITS in
    let some = g.met.T.Word.some_law in
    let each = pack.width_of bits w g.T.Word.number g.met.T.Word.number_law in
    let n = c.self.inside.len in
    let all = flat_map bits c.self.inside.blocks.items in
    let len : length c.args.self.now.bits ≡ n = ap (λ b. length b.bits) (sym c.self.view_is) ∙ pack.length_kept w n all some c.self.invariant in
    let room = pack.blocks_for_is w n some in
    let v = c.args.value in
    let count = pack.blocks_are bits w each c.self.inside.blocks.items n some c.self.invariant in
    let now = flat_map bits c.fill_blocks.new.blocks.items in
    let filled : now ≡ replicate (blocks_for w n * w) v = ap (flat_map bits) c.fill_blocks.ensures.items ∙ pack.spelled-replicate bits w each (length c.self.inside.blocks.items) c.all.result v c.all.ensures ∙ ap (λ k. replicate (k * w) v) count in
    let size : length now ≡ blocks_for w n * w = ap length filled ∙ length-replicate (blocks_for w n * w) v in
    let front : take n now ≡ replicate n v = ap (take n) filled ∙ take-replicate n (blocks_for w n * w) v room.0 in
    let last = flat_map bits c.fill_above.new.blocks.items in
    let is = setwise.refilled_is w n now last (replicate n v) some size front c.fill_above.ensures.bits in
    pack.kept n (blocks_for w n * w - n) (replicate n v) last is (length-replicate n v) ∙ ap (λ k. replicate k v) (sym len)
