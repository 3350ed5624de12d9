use Rattle.std.proofs.Common.{◌≡◌, ◌<◌, ◌-◌, ◌*◌, ◌∷◌, [], ◌++◌, false, length, get_or, sym, ap, ◌∙◌, arith, take}
use Rattle.std.proofs.Math.Seq.{take-suc}
use Rattle.std.proofs.lemmas.List.{length-take}
use Rattle.std.specs.List.{flat_map}
use Rattle.vob.specs.Packed.{blocks_for}
use Rattle.vob.proofs.Pack as pack
use Rattle.vob.proofs.Rooms as rooms
use Rattle.vob.proofs.Vob.pop.Goals as goal

pub returns-clause-bits : goal.returns-clause-bits
returns-clause-bits g c =
    let w = g.T.Word.BITS in
    let some = g.met.T.Word.some_law in
    let n = c.self.inside.len in
    let all = flat_map g.T.Word.bits c.self.inside.blocks.items in
    let last = n - 1 in
    let there : last < length all = omega (arith, pack.length_kept w n all some c.self.invariant, length-take n all) in
    let front : length (take last all) ≡ last = length-take last all ∙ (omega arith) in
    let left = pack.kept last (blocks_for w last * w - last) (take last all) (flat_map g.T.Word.bits c.cut.new.blocks.items) c.cut.ensures.bits front in
    let value : c.bit_at-value.result ≡ get_or all last false = c.bit_at-value.ensures ∙ ap (λ xs. get_or (flat_map g.T.Word.bits xs) last false) c.as_slice.ensures.value in
    ap (λ b. b.bits) (sym c.self.view_is) ∙ rooms.taken_last n last all c.bit_at-value.result (omega arith) there value ∙ ap (λ xs. xs ++ c.bit_at-value.result ∷ []) (sym left)
