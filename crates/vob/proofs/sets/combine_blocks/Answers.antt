use Rattle.std.proofs.Common.{◌≡◌, ◌<◌, ◌≤◌, not, length, ap₂, ◌∙◌, arith, take}
use Rattle.std.specs.List.{flat_map}
use Rattle.vob.proofs.Pack as pack
use Rattle.vob.proofs.Setwise as setwise
use Rattle.vob.proofs.Setwise.{same_bits}
use Rattle.vob.specs.Pointwise.{item_of}
use Rattle.std.proofs.lemmas.List.{length-set, take_all}
use Rattle.vob.proofs.sets.combine_blocks.Goals as goal

pub each-preserved : goal.each-preserved
each-preserved g c =
    let bits = g.T.Word.bits in
    let w = g.T.Word.BITS in
    let some = g.met.T.Word.some_law in
    let each = pack.width_of bits w g.T.Word.number g.met.T.Word.number_law in
    let op = item_of c.args.how in
    let xs = c.each.to.items in
    let init = c.args.to.now.items in
    let from = c.args.from.now in
    let k = c.each.k in
    let x = c.index-block.result.now in
    let y = c.of-new.result in
    let z = c.index-from-k.result in
    let v = c.each.invariant in
    let h : k < length from = omega arith in
    let h' : k < length xs = omega (arith, v.size) in
    record {
      size = length-set xs k y ∙ v.size;
      capacity = v.capacity;
      rest = setwise.rest_more bits w each xs init k y v.rest;
      done = setwise.combined_more bits w each op xs init from k x y z c.requires v.size h v.rest v.done c.index-block.ensures c.index-from-k.is c.of-new.ensures;
      flag = setwise.flag_more_at bits w each xs init k x y c.each.changed c.is_same.result v.size h' v.rest v.flag c.index-block.ensures c.is_same.ensures;
    }

pub returns-clause-changed : goal.returns-clause-changed
returns-clause-changed g c =
    let bits = g.T.Word.bits in
    let w = g.T.Word.BITS in
    let some = g.met.T.Word.some_law in
    let each = pack.width_of bits w g.T.Word.number g.met.T.Word.number_law in
    let xs = c.each.to.items in
    let init = c.args.to.now.items in
    let k = c.each.k in
    let v = c.each.invariant in
    let end : length init ≤ k = omega (arith, c.requires) in
    let a : take k xs ≡ xs = take_all k xs (omega (arith, v.size)) in
    let b : take k init ≡ init = take_all k init end in
    setwise.flag_is (flat_map bits xs) (flat_map bits init) c.each.changed (v.flag ∙ ap₂ (λ p q. not (same_bits (flat_map bits p) (flat_map bits q))) a b)
