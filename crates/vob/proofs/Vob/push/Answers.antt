use Rattle.std.proofs.Common.{◌≡◌, ◌+◌, ◌-◌, ◌*◌, false, [], ◌∷◌, ◌++◌, length, set, sym, ap, ◌∙◌, arith, replicate, take}
use Rattle.std.specs.List.{flat_map}
use Rattle.vob.specs.Packed.{blocks_for}
use Rattle.vob.proofs.Pack as pack
use Rattle.std.specs.Vec.{vec_capacity}
use Rattle.std.proofs.lemmas.List.{length_push}
use Rattle.vob.proofs.Vob.push.Goals as goal

pub invariant_of-self-2 : goal.invariant_of-self-2
invariant_of-self-2 g c =
    let all = flat_map g.T.Word.bits c.self.inside.blocks.items in
    let n = c.self.inside.len in
    let len : length c.args.self.now.bits ≡ n = ap (λ b. length b.bits) (sym c.self.view_is) ∙ pack.length_kept g.T.Word.BITS n all g.met.T.Word.some_law c.self.invariant in
    let some = g.met.T.Word.some_law in
    let w = g.T.Word.BITS in
    let new : flat_map g.T.Word.bits c.put_bit.new.blocks.items ≡ (take n all ++ c.args.value ∷ []) ++ replicate (blocks_for w (n + 1) * w - (n + 1)) false =
    pack.pushed w n all (flat_map g.T.Word.bits c.put_bit.new.blocks.items) c.args.value some c.self.invariant (c.put_bit.ensures.bits ∙ ap (λ xs. set xs n c.args.value) c.in_ok-cover.ensures.ok) in
    let size : length (take n all ++ c.args.value ∷ []) ≡ n + 1 = length_push (take n all) c.args.value ∙ ap (λ k. k + 1) (pack.length_kept w n all some c.self.invariant) in
    pack.closed w (n + 1) (take n all ++ c.args.value ∷ []) (flat_map g.T.Word.bits c.put_bit.new.blocks.items) some new size

pub returns-clause-ok : goal.returns-clause-ok
returns-clause-ok g c =
    let all = flat_map g.T.Word.bits c.self.inside.blocks.items in
    let n = c.self.inside.len in
    let len : length c.args.self.now.bits ≡ n = ap (λ b. length b.bits) (sym c.self.view_is) ∙ pack.length_kept g.T.Word.BITS n all g.met.T.Word.some_law c.self.invariant in
    let some = g.met.T.Word.some_law in
    let w = g.T.Word.BITS in
    let new : flat_map g.T.Word.bits c.put_bit.new.blocks.items ≡ (take n all ++ c.args.value ∷ []) ++ replicate (blocks_for w (n + 1) * w - (n + 1)) false =
    pack.pushed w n all (flat_map g.T.Word.bits c.put_bit.new.blocks.items) c.args.value some c.self.invariant (c.put_bit.ensures.bits ∙ ap (λ xs. set xs n c.args.value) c.in_ok-cover.ensures.ok) in
    let size : length (take n all ++ c.args.value ∷ []) ≡ n + 1 = length_push (take n all) c.args.value ∙ ap (λ k. k + 1) (pack.length_kept w n all some c.self.invariant) in
    pack.kept (n + 1) (blocks_for w (n + 1) * w - (n + 1)) (take n all ++ c.args.value ∷ []) (flat_map g.T.Word.bits c.put_bit.new.blocks.items) new size ∙ ap (λ b. b.bits ++ c.args.value ∷ []) c.self.view_is

pub returns-clause-capacity : goal.returns-clause-capacity
returns-clause-capacity g c =
    let grown = pack.times_mono (vec_capacity c.self.inside.blocks) (vec_capacity c.put_bit.new.blocks) g.T.Word.BITS (omega (arith, c.in_ok-cover.ensures.capacity, c.put_bit.ensures.capacity)) in
    let was = ap (λ b. b.capacity) c.self.view_is in
    omega arith

pub returns-then-self-clause-room : goal.returns-then-self-clause-room
returns-then-self-clause-room g c =
    let len : length c.args.self.now.bits ≡ c.self.inside.len = ap (λ b. length b.bits) (sym c.self.view_is) ∙ pack.length_kept g.T.Word.BITS c.self.inside.len (flat_map g.T.Word.bits c.self.inside.blocks.items) g.met.T.Word.some_law c.self.invariant in
    let was = ap (λ b. b.capacity) c.self.view_is in
    let most = c.if-self.true in
    λ h. absurd (omega arith)

pub returns-in_err-cover-clause-room : goal.returns-in_err-cover-clause-room
returns-in_err-cover-clause-room g c =
    let len : length c.args.self.now.bits ≡ c.self.inside.len = ap (λ b. length b.bits) (sym c.self.view_is) ∙ pack.length_kept g.T.Word.BITS c.self.inside.len (flat_map g.T.Word.bits c.self.inside.blocks.items) g.met.T.Word.some_law c.self.invariant in
    let was = ap (λ b. b.capacity) c.self.view_is in
    λ h. absurd (omega (arith, c.in_err-cover.ensures.full))

pub put_bit-requires : goal.put_bit-requires
put_bit-requires g c =
    rw c.in_ok-cover.ensures.ok (pack.place_of_next g.T.Word.BITS c.self.inside.len (flat_map g.T.Word.bits c.self.inside.blocks.items) g.met.T.Word.some_law c.self.invariant)
