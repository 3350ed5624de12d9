use Rattle.std.proofs.Common.{◌≡◌, ◌+◌, ◌-◌, ◌*◌, Bool, List, false, ◌++◌, length, sym, ap, ap₂, ◌∙◌, arith, replicate, take}
use Rattle.std.specs.List.{flat_map}
use Rattle.std.proofs.lemmas.List.{length-append, length-replicate, take_all}
use Rattle.std.proofs.lemmas.Grind.{common_steps}
use Rattle.vob.specs.Packed.{blocks_for}
use Rattle.vob.proofs.Pack as pack
use Rattle.vob.proofs.Vob.resize.Goals as goal

pub invariant_of-self-2 : goal.invariant_of-self-2
invariant_of-self-2 g c =
    let w = g.T.Word.BITS in
    let some = g.met.T.Word.some_law in
    let n = c.self.inside.len in
    let m = c.args.new_len in
    let all = flat_map g.T.Word.bits c.self.inside.blocks.items in
    let items = take n all ++ replicate (m - n) c.args.value in
    let size : length items ≡ m = length-append (take n all) (replicate (m - n) c.args.value) ∙ ap₂ (λ i j. i + j) (pack.length_kept w n all some c.self.invariant) (length-replicate (m - n) c.args.value) ∙ (omega arith) in
    pack.closed w m items (flat_map g.T.Word.bits c.widen.new.blocks.items) some c.in_ok-widen.ensures.ok size

pub returns-then-new_len-self-clause-ok : goal.returns-then-new_len-self-clause-ok
returns-then-new_len-self-clause-ok g c = grind (arith, common_steps)

pub returns-clause-ok : goal.returns-clause-ok
returns-clause-ok g c =
    let w = g.T.Word.BITS in
    let some = g.met.T.Word.some_law in
    let n = c.self.inside.len in
    let m = c.args.new_len in
    let v = c.args.value in
    let all = flat_map g.T.Word.bits c.self.inside.blocks.items in
    let items = take n all ++ replicate (m - n) v in
    let kept = pack.length_kept w n all some c.self.invariant in
    let size : length items ≡ m = length-append (take n all) (replicate (m - n) v) ∙ ap₂ (λ i j. i + j) kept (length-replicate (m - n) v) ∙ (omega arith) in
    let was = ap (λ b. b.bits) c.self.view_is in
    let len : length (take n all) ≡ length c.args.self.now.bits = ap length was in
    pack.kept m (blocks_for w m * w - m) items (flat_map g.T.Word.bits c.widen.new.blocks.items) c.in_ok-widen.ensures.ok size
    ∙ ap₂ (λ (xs : List Bool) k. xs ++ replicate (m - k) v) (sym (take_all m (take n all) (omega arith)) ∙ ap (take m) was) (sym kept ∙ len)
