use Rattle.std.proofs.Common.{◌≡◌, ◌+◌, ◌-◌, ◌*◌, Bool, false, List, ◌++◌, length, ap, ap₂, ◌∙◌, replicate, take, arith}
use Rattle.std.specs.List.{flat_map}
use Rattle.vob.specs.Packed.{blocks_for}
use Rattle.vob.proofs.Pack as pack
use Rattle.std.proofs.lemmas.List.{length-append}
use Rattle.std.proofs.lemmas.Grind.{common_steps}
use Rattle.vob.proofs.Vob.extend_from_vob.Goals as goal

pub invariant_of-self : goal.invariant_of-self
invariant_of-self g c =
    let bits = g.T.Word.bits in
    let w = g.T.Word.BITS in
    let some = g.met.T.Word.some_law in
    let each = pack.width_of bits w g.T.Word.number g.met.T.Word.number_law in
    let n = c.self.inside.len in
    let m = c.other.inside.len in
    let all = flat_map bits c.self.inside.blocks.items in
    let others = flat_map bits c.other.inside.blocks.items in
    let items = take n all ++ take m others in
    let new = flat_map bits c.join.new.blocks.items in
    let is : new ≡ items ++ replicate (blocks_for w (n + m) * w - (n + m)) false =
    c.join.ensures.bits ∙ ap (λ xs. (take n all ++ take m (flat_map bits xs)) ++ replicate (blocks_for w (n + m) * w - (n + m)) false) c.as_slice.ensures.value in
    let size : length items ≡ n + m = length-append (take n all) (take m others) ∙ ap₂ (λ i j. i + j) (pack.length_kept w n all some c.self.invariant) (pack.length_kept w m others some c.other.invariant) in
    pack.closed w (n + m) items new some is size

pub returns-clause-ok : goal.returns-clause-ok
returns-clause-ok g c =
    let bits = g.T.Word.bits in
    let w = g.T.Word.BITS in
    let some = g.met.T.Word.some_law in
    let each = pack.width_of bits w g.T.Word.number g.met.T.Word.number_law in
    let n = c.self.inside.len in
    let m = c.other.inside.len in
    let all = flat_map bits c.self.inside.blocks.items in
    let others = flat_map bits c.other.inside.blocks.items in
    let items = take n all ++ take m others in
    let new = flat_map bits c.join.new.blocks.items in
    let is : new ≡ items ++ replicate (blocks_for w (n + m) * w - (n + m)) false =
    c.join.ensures.bits ∙ ap (λ xs. (take n all ++ take m (flat_map bits xs)) ++ replicate (blocks_for w (n + m) * w - (n + m)) false) c.as_slice.ensures.value in
    let size : length items ≡ n + m = length-append (take n all) (take m others) ∙ ap₂ (λ i j. i + j) (pack.length_kept w n all some c.self.invariant) (pack.length_kept w m others some c.other.invariant) in
    pack.kept (n + m) (blocks_for w (n + m) * w - (n + m)) items new is size
    ∙ ap₂ (λ (xs : List Bool) (ys : List Bool). xs ++ ys) (ap (λ b. b.bits) c.self.view_is ∙ c.reserve.ensures.bits) (ap (λ b. b.bits) c.other.view_is)

pub overflow_add-self : goal.overflow_add-self
overflow_add-self g c =
    let n = c.self.inside.len in
    let kept = pack.length_kept g.T.Word.BITS n (flat_map g.T.Word.bits c.self.inside.blocks.items) g.met.T.Word.some_law c.self.invariant in
    let room = ap (λ b. b.capacity) c.self.view_is in
    let len = ap (λ b. length b.bits) c.self.view_is in
    let same : length c.reserve.new.self.bits ≡ length c.args.self.now.bits = ap length c.reserve.ensures.bits in
    record { fits = omega (arith, c.in_ok-reserve.ensures.ok) }

pub join-requires-clause-room : goal.join-requires-clause-room
join-requires-clause-room g c = grind (arith, common_steps)

pub join-requires-clause-fits : goal.join-requires-clause-fits
join-requires-clause-fits g c = grind (arith, common_steps)

pub returns-clause-too_long : goal.returns-clause-too_long
returns-clause-too_long g c = grind (arith, common_steps)

pub returns-clause-capacity : goal.returns-clause-capacity
returns-clause-capacity g c = grind (arith, common_steps)
