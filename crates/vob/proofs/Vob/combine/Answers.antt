use Rattle.std.proofs.Common.{◌≡◌, length, sym, ap, ap₂, ◌∙◌, subst, arith, take}
use Rattle.std.specs.List.{flat_map}
use Rattle.vob.specs.Bits.{bitwise}
use Rattle.vob.specs.Packed.{Packs}
use Rattle.vob.proofs.Pack as pack
use Rattle.vob.proofs.Setwise as setwise
use Rattle.vob.specs.Pointwise.{item_of}
use Rattle.vob.proofs.Vob.combine.Goals as goal

pub combine_blocks-requires : goal.combine_blocks-requires
combine_blocks-requires g c =
    let bits = g.T.Word.bits in
    let w = g.T.Word.BITS in
    let some = g.met.T.Word.some_law in
    let each = pack.width_of bits w g.T.Word.number g.met.T.Word.number_law in
    let n = c.self.inside.len in
    let all = flat_map bits c.self.inside.blocks.items in
    let len : length c.args.self.now.bits ≡ n = ap (λ b. length b.bits) (sym c.self.view_is) ∙ pack.length_kept w n all some c.self.invariant in
    let m = c.other.inside.len in
    let there = flat_map bits c.other.inside.blocks.items in
    let len' : length c.args.other.now.bits ≡ m = ap (λ b. length b.bits) (sym c.other.view_is) ∙ pack.length_kept w m there some c.other.invariant in
    let same : m ≡ n = omega arith in
    let packs : Packs w n there = subst (λ k. Packs w k there) same c.other.invariant in
    pack.blocks_are bits w each c.self.inside.blocks.items n some c.self.invariant ∙ sym (ap length c.as_slice.ensures.value ∙ pack.blocks_are bits w each c.other.inside.blocks.items n some packs)

pub invariant_of-self : goal.invariant_of-self
invariant_of-self g c =
    let bits = g.T.Word.bits in
    let w = g.T.Word.BITS in
    let some = g.met.T.Word.some_law in
    let each = pack.width_of bits w g.T.Word.number g.met.T.Word.number_law in
    let n = c.self.inside.len in
    let all = flat_map bits c.self.inside.blocks.items in
    let len : length c.args.self.now.bits ≡ n = ap (λ b. length b.bits) (sym c.self.view_is) ∙ pack.length_kept w n all some c.self.invariant in
    let m = c.other.inside.len in
    let there = flat_map bits c.other.inside.blocks.items in
    let len' : length c.args.other.now.bits ≡ m = ap (λ b. length b.bits) (sym c.other.view_is) ∙ pack.length_kept w m there some c.other.invariant in
    let same : m ≡ n = omega arith in
    let packs : Packs w n there = subst (λ k. Packs w k there) same c.other.invariant in
    let op = item_of c.args.how in
    let after : Packs w n (bitwise op all there) = setwise.combined_packs op w n all there (setwise.item_none c.args.how) c.self.invariant packs in
    let is : flat_map bits c.combine_blocks.new.to.items ≡ bitwise op all there = c.combine_blocks.ensures.bits ∙ ap (λ xs. bitwise op all (flat_map bits xs)) c.as_slice.ensures.value in
    subst (λ xs. Packs w n xs) (sym is) after

pub returns-clause-bits : goal.returns-clause-bits
returns-clause-bits g c =
    let bits = g.T.Word.bits in
    let w = g.T.Word.BITS in
    let some = g.met.T.Word.some_law in
    let each = pack.width_of bits w g.T.Word.number g.met.T.Word.number_law in
    let n = c.self.inside.len in
    let all = flat_map bits c.self.inside.blocks.items in
    let len : length c.args.self.now.bits ≡ n = ap (λ b. length b.bits) (sym c.self.view_is) ∙ pack.length_kept w n all some c.self.invariant in
    let m = c.other.inside.len in
    let there = flat_map bits c.other.inside.blocks.items in
    let len' : length c.args.other.now.bits ≡ m = ap (λ b. length b.bits) (sym c.other.view_is) ∙ pack.length_kept w m there some c.other.invariant in
    let same : m ≡ n = omega arith in
    let packs : Packs w n there = subst (λ k. Packs w k there) same c.other.invariant in
    let op = item_of c.args.how in
    let after : Packs w n (bitwise op all there) = setwise.combined_packs op w n all there (setwise.item_none c.args.how) c.self.invariant packs in
    let is : flat_map bits c.combine_blocks.new.to.items ≡ bitwise op all there = c.combine_blocks.ensures.bits ∙ ap (λ xs. bitwise op all (flat_map bits xs)) c.as_slice.ensures.value in
    ap (take n) is ∙ setwise.take-bitwise op n all there ∙ ap₂ (bitwise op) (ap (λ b. b.bits) c.self.view_is) (ap (λ k. take k there) (sym same) ∙ ap (λ b. b.bits) c.other.view_is)

pub returns-clause-changed : goal.returns-clause-changed
returns-clause-changed g c =
    let bits = g.T.Word.bits in
    let w = g.T.Word.BITS in
    let some = g.met.T.Word.some_law in
    let each = pack.width_of bits w g.T.Word.number g.met.T.Word.number_law in
    let n = c.self.inside.len in
    let all = flat_map bits c.self.inside.blocks.items in
    let len : length c.args.self.now.bits ≡ n = ap (λ b. length b.bits) (sym c.self.view_is) ∙ pack.length_kept w n all some c.self.invariant in
    let m = c.other.inside.len in
    let there = flat_map bits c.other.inside.blocks.items in
    let len' : length c.args.other.now.bits ≡ m = ap (λ b. length b.bits) (sym c.other.view_is) ∙ pack.length_kept w m there some c.other.invariant in
    let same : m ≡ n = omega arith in
    let packs : Packs w n there = subst (λ k. Packs w k there) same c.other.invariant in
    let op = item_of c.args.how in
    let after : Packs w n (bitwise op all there) = setwise.combined_packs op w n all there (setwise.item_none c.args.how) c.self.invariant packs in
    let is : flat_map bits c.combine_blocks.new.to.items ≡ bitwise op all there = c.combine_blocks.ensures.bits ∙ ap (λ xs. bitwise op all (flat_map bits xs)) c.as_slice.ensures.value in
    let now = flat_map bits c.combine_blocks.new.to.items in
    let new : Packs w n now = subst (λ xs. Packs w n xs) (sym is) after in
    let view : take n all ≡ c.args.self.now.bits = ap (λ b. b.bits) c.self.view_is in
    let flag = c.combine_blocks.ensures.changed in
    (λ t e. flag.0 t (setwise.same_kept w n now all new c.self.invariant (e ∙ sym view)), λ h. flag.1 (λ e. h (ap (take n) e ∙ view)))
