use Rattle.std.proofs.Common.{◌≡◌, ◌+◌, ◌%◌, ◌<◌, ◌≤◌, length, sym, ap, ap₂, ◌∙◌, arith, rules}
use Rattle.std.specs.List.{flat_map}
use Rattle.vob.proofs.Pack as pack
use Rattle.vob.proofs.Walks as walks
use Rattle.vob.specs.Walk.{indices_of}
use Rattle.std.proofs.lemmas.List.{length-append}
use Rattle.std.proofs.lemmas.Nat.{mod_below}
use Rattle.vob.proofs.find.count_indices.Goals as goal

pub bounds-blocks-at : goal.bounds-blocks-at
bounds-blocks-at g c =
    let bits = g.T.Word.bits in
    let w = g.T.Word.BITS in
    let some = g.met.T.Word.some_law in
    let each = pack.width_of bits w g.T.Word.number g.met.T.Word.number_law in
    pack.block_below bits w each c.args.blocks.now c.each.at c.BITS-width.result some c.BITS-width.ensures (omega arith)

pub offset_bounds-blocks-at : goal.offset_bounds-blocks-at
offset_bounds-blocks-at g c =
    let bits = g.T.Word.bits in
    let w = g.T.Word.BITS in
    let some = g.met.T.Word.some_law in
    let each = pack.width_of bits w g.T.Word.number g.met.T.Word.number_law in
    let h = pack.block_below bits w each c.args.blocks.now c.each.at c.BITS-width.result some c.BITS-width.ensures (omega arith) in
    omega arith

pub overflow_add-count : goal.overflow_add-count
overflow_add-count g c =
    let bits = g.T.Word.bits in
    let w = g.T.Word.BITS in
    let some = g.met.T.Word.some_law in
    let each = pack.width_of bits w g.T.Word.number g.met.T.Word.number_law in
    let b = c.BITS-width.result in
    let e = c.BITS-width.ensures in
    let xs = c.args.blocks.now in
    let all = flat_map bits xs in
    let v = c.args.value in
    let at = c.each.at in
    let n = c.min-taken.result in
    let is = c.min-taken.ensures in
    let i = c.each.invariant in
    let r : at % b < b = mod_below at b (omega arith) in
    let high : at + n ≤ c.args.to = omega arith in
    let more : c.set_count-count.result ≡ length (indices_of v all at (at + n)) =
    c.set_count-count.ensures ∙ walks.counted bits w each xs at b n c.index-blocks-at.result v (bits c.matching.result) (bits c.low_part.result) (bits c.moved_down.result) some e (omega arith) (omega arith) (omega arith) c.index-blocks-at.is c.matching.ensures c.low_part.ensures c.moved_down.ensures in
    let sum : c.each.count + c.set_count-count.result ≡ length (indices_of v all c.args.from (at + n)) =
    ap₂ (λ p q. p + q) i.count more ∙ sym (ap length (walks.indices_split v all c.args.from at (at + n) i.low (omega arith)) ∙ length-append (indices_of v all c.args.from at) (indices_of v all at (at + n))) in
    let least = walks.length-indices v all c.args.from (at + n) in
    search rules

pub each-preserved : goal.each-preserved
each-preserved g c =
    let bits = g.T.Word.bits in
    let w = g.T.Word.BITS in
    let some = g.met.T.Word.some_law in
    let each = pack.width_of bits w g.T.Word.number g.met.T.Word.number_law in
    let b = c.BITS-width.result in
    let e = c.BITS-width.ensures in
    let xs = c.args.blocks.now in
    let all = flat_map bits xs in
    let v = c.args.value in
    let at = c.each.at in
    let n = c.min-taken.result in
    let is = c.min-taken.ensures in
    let i = c.each.invariant in
    let r : at % b < b = mod_below at b (omega arith) in
    let high : at + n ≤ c.args.to = omega arith in
    let more : c.set_count-count.result ≡ length (indices_of v all at (at + n)) =
    c.set_count-count.ensures ∙ walks.counted bits w each xs at b n c.index-blocks-at.result v (bits c.matching.result) (bits c.low_part.result) (bits c.moved_down.result) some e (omega arith) (omega arith) (omega arith) c.index-blocks-at.is c.matching.ensures c.low_part.ensures c.moved_down.ensures in
    let sum : c.each.count + c.set_count-count.result ≡ length (indices_of v all c.args.from (at + n)) =
    ap₂ (λ p q. p + q) i.count more ∙ sym (ap length (walks.indices_split v all c.args.from at (at + n) i.low (omega arith)) ∙ length-append (indices_of v all c.args.from at) (indices_of v all at (at + n))) in
    record { count = sum; low = omega (arith, i.low); high = omega arith }
