use Rattle.std.proofs.Common.{◌≡◌, ◌-◌, ◌*◌, false, ◌++◌, length, ap, ◌∙◌, replicate, take, drop}
use Rattle.std.specs.List.{flat_map}
use Rattle.vob.specs.Packed.{blocks_for}
use Rattle.vob.proofs.Pack as pack
use Rattle.std.proofs.lemmas.List.{length-drop}
use Rattle.vob.proofs.Vob.split_off.Goals as goal

pub invariant_of-result : goal.invariant_of-result
invariant_of-result g c =
    let bits = g.T.Word.bits in
    let w = g.T.Word.BITS in
    let some = g.met.T.Word.some_law in
    let each = pack.width_of bits w g.T.Word.number g.met.T.Word.number_law in
    let n = c.self.inside.len in
    let at = c.args.at in
    let all = flat_map bits c.self.inside.blocks.items in
    let new = flat_map bits c.in_ok-blocks.blocks.items in
    let items = drop at (take n all) in
    let is : new ≡ items ++ replicate (blocks_for w (n - at) * w - (n - at)) false =
    c.in_ok-blocks.ensures.bits ∙ ap (λ xs. drop at (take n (flat_map bits xs)) ++ replicate (blocks_for w (n - at) * w - (n - at)) false) c.as_slice.ensures.value in
    let size : length items ≡ n - at = length-drop at (take n all) ∙ ap (λ i. i - at) (pack.length_kept w n all some c.self.invariant) in
    pack.closed w (n - at) items new some is size

pub returns-clause-others : goal.returns-clause-others
returns-clause-others g c =
    let bits = g.T.Word.bits in
    let w = g.T.Word.BITS in
    let some = g.met.T.Word.some_law in
    let each = pack.width_of bits w g.T.Word.number g.met.T.Word.number_law in
    let n = c.self.inside.len in
    let at = c.args.at in
    let all = flat_map bits c.self.inside.blocks.items in
    let new = flat_map bits c.in_ok-blocks.blocks.items in
    let items = drop at (take n all) in
    let is : new ≡ items ++ replicate (blocks_for w (n - at) * w - (n - at)) false =
    c.in_ok-blocks.ensures.bits ∙ ap (λ xs. drop at (take n (flat_map bits xs)) ++ replicate (blocks_for w (n - at) * w - (n - at)) false) c.as_slice.ensures.value in
    let size : length items ≡ n - at = length-drop at (take n all) ∙ ap (λ i. i - at) (pack.length_kept w n all some c.self.invariant) in
    pack.kept (n - at) (blocks_for w (n - at) * w - (n - at)) items new is size ∙ ap (λ b. drop at b.bits) c.self.view_is
