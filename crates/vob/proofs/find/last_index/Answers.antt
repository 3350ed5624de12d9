use Rattle.std.proofs.Common.{◌+◌, ◌-◌, ◌%◌, ◌<◌, ◌≤◌, not, length, arith}
use Rattle.std.specs.List.{flat_map}
use Rattle.vob.proofs.Pack as pack
use Rattle.vob.proofs.Walks as walks
use Rattle.vob.proofs.find.last_index.Goals as goal

pub bounds-blocks-at : goal.bounds-blocks-at
bounds-blocks-at g c =
    let bits = g.T.Word.bits in
    let w = g.T.Word.BITS in
    let some = g.met.T.Word.some_law in
    let each = pack.width_of bits w g.T.Word.number g.met.T.Word.number_law in
    pack.block_below bits w each c.args.blocks.now (c.each.at - 1) c.BITS-width.result some c.BITS-width.ensures (omega (arith, c.each.invariant.high, c.requires))

pub offset_bounds-blocks-at : goal.offset_bounds-blocks-at
offset_bounds-blocks-at g c =
    let bits = g.T.Word.bits in
    let w = g.T.Word.BITS in
    let some = g.met.T.Word.some_law in
    let each = pack.width_of bits w g.T.Word.number g.met.T.Word.number_law in
    let h = pack.block_below bits w each c.args.blocks.now (c.each.at - 1) c.BITS-width.result some c.BITS-width.ensures (omega (arith, c.each.invariant.high, c.requires)) in
    omega arith

pub returns-then-others-at : goal.returns-then-others-at
returns-then-others-at g c =
    let bits = g.T.Word.bits in
    let w = g.T.Word.BITS in
    let some = g.met.T.Word.some_law in
    let each = pack.width_of bits w g.T.Word.number g.met.T.Word.number_law in
    let b = c.BITS-width.result in
    let e = c.BITS-width.ensures in
    let xs = c.args.blocks.now in
    let v = c.args.value in
    let at = c.each.at in
    let pos : 0 < at = omega arith in
    let room : at ≤ length (flat_map bits xs) = omega (arith, c.each.invariant.high, c.requires) in
    let x = c.index-blocks-at.result in
    let o = c.others_below-others.result in
    let f = c.others_below-others.ensures in
    let run = walks.run_below bits w each xs c.args.to at b o x (not v) some e pos room c.index-blocks-at.is c.each.invariant.after f.within f.after in
    record { cases = λ i low high. run i (omega arith) high }

pub returns-then-others-used : goal.returns-then-others-used
returns-then-others-used g c =
    let bits = g.T.Word.bits in
    let w = g.T.Word.BITS in
    let some = g.met.T.Word.some_law in
    let each = pack.width_of bits w g.T.Word.number g.met.T.Word.number_law in
    let b = c.BITS-width.result in
    let e = c.BITS-width.ensures in
    let xs = c.args.blocks.now in
    let v = c.args.value in
    let at = c.each.at in
    let pos : 0 < at = omega arith in
    let room : at ≤ length (flat_map bits xs) = omega (arith, c.each.invariant.high, c.requires) in
    let x = c.index-blocks-at.result in
    let o = c.others_below-others.result in
    let f = c.others_below-others.ensures in
    let run = walks.run_below bits w each xs c.args.to at b o x (not v) some e pos room c.index-blocks-at.is c.each.invariant.after f.within f.after in
    let within : o < (at - 1) % b + 1 = omega arith in
    record { cases = (omega arith, omega (arith, c.each.invariant.high), walks.found_below bits w each xs at b o x v some e pos room c.index-blocks-at.is within f.found, λ i low high. run i (omega arith) high) }

pub each-preserved : goal.each-preserved
each-preserved g c =
    let bits = g.T.Word.bits in
    let w = g.T.Word.BITS in
    let some = g.met.T.Word.some_law in
    let each = pack.width_of bits w g.T.Word.number g.met.T.Word.number_law in
    let b = c.BITS-width.result in
    let e = c.BITS-width.ensures in
    let xs = c.args.blocks.now in
    let v = c.args.value in
    let at = c.each.at in
    let pos : 0 < at = omega arith in
    let room : at ≤ length (flat_map bits xs) = omega (arith, c.each.invariant.high, c.requires) in
    let x = c.index-blocks-at.result in
    let o = c.others_below-others.result in
    let f = c.others_below-others.ensures in
    let run = walks.run_below bits w each xs c.args.to at b o x (not v) some e pos room c.index-blocks-at.is c.each.invariant.after f.within f.after in
    record { high = omega (arith, c.each.invariant.high); after = λ i low high. run i (omega arith) high }
