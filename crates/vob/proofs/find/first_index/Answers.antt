use Rattle.std.proofs.Common.{◌+◌, ◌%◌, ◌<◌, not, arith}
use Rattle.vob.proofs.Pack as pack
use Rattle.vob.proofs.Walks as walks
use Rattle.vob.proofs.find.first_index.Goals as goal

pub bounds-blocks-at : goal.bounds-blocks-at
bounds-blocks-at g c =
    let bits = g.T.Word.bits in
    let w = g.T.Word.BITS in
    let some = g.met.T.Word.some_law in
    let each = pack.width_of bits w g.T.Word.number g.met.T.Word.number_law in
    pack.block_below bits w each c.args.blocks.now c.each.at c.BITS-width.result some c.BITS-width.ensures (omega arith)

pub offset_bounds-blocks-at : goal.offset_bounds-blocks-at
offset_bounds-blocks-at g c =
    let bits = g.T.Word.bits in
    let w = g.T.Word.BITS in
    let some = g.met.T.Word.some_law in
    let each = pack.width_of bits w g.T.Word.number g.met.T.Word.number_law in
    let h = pack.block_below bits w each c.args.blocks.now c.each.at c.BITS-width.result some c.BITS-width.ensures (omega arith) in
    omega arith

pub returns-then-others-to : goal.returns-then-others-to
returns-then-others-to g c =
    let bits = g.T.Word.bits in
    let w = g.T.Word.BITS in
    let some = g.met.T.Word.some_law in
    let each = pack.width_of bits w g.T.Word.number g.met.T.Word.number_law in
    let b = c.BITS-width.result in
    let e = c.BITS-width.ensures in
    let xs = c.args.blocks.now in
    let v = c.args.value in
    let at = c.each.at in
    let x = c.index-blocks-at.result in
    let o = c.others_above-others.result in
    let f = c.others_above-others.ensures in
    let run = walks.run_above bits w each xs c.args.from at b o x (not v) some e (omega arith) c.index-blocks-at.is c.each.invariant.before f.within f.before in
    record { cases = λ i low high. run i low (omega arith) }

pub returns-then-others-rest : goal.returns-then-others-rest
returns-then-others-rest g c =
    let bits = g.T.Word.bits in
    let w = g.T.Word.BITS in
    let some = g.met.T.Word.some_law in
    let each = pack.width_of bits w g.T.Word.number g.met.T.Word.number_law in
    let b = c.BITS-width.result in
    let e = c.BITS-width.ensures in
    let xs = c.args.blocks.now in
    let v = c.args.value in
    let at = c.each.at in
    let x = c.index-blocks-at.result in
    let o = c.others_above-others.result in
    let f = c.others_above-others.ensures in
    let run = walks.run_above bits w each xs c.args.from at b o x (not v) some e (omega arith) c.index-blocks-at.is c.each.invariant.before f.within f.before in
    let within : at % b + o < w = omega arith in
    record { cases = (omega (arith, c.each.invariant.low), omega arith, walks.found_above bits w each xs at b o x v some e (omega arith) c.index-blocks-at.is within (f.found within), run) }

pub each-preserved : goal.each-preserved
each-preserved g c =
    let bits = g.T.Word.bits in
    let w = g.T.Word.BITS in
    let some = g.met.T.Word.some_law in
    let each = pack.width_of bits w g.T.Word.number g.met.T.Word.number_law in
    let b = c.BITS-width.result in
    let e = c.BITS-width.ensures in
    let xs = c.args.blocks.now in
    let v = c.args.value in
    let at = c.each.at in
    let x = c.index-blocks-at.result in
    let o = c.others_above-others.result in
    let f = c.others_above-others.ensures in
    let run = walks.run_above bits w each xs c.args.from at b o x (not v) some e (omega arith) c.index-blocks-at.is c.each.invariant.before f.within f.before in
    record { low = omega (arith, c.each.invariant.low); before = run }
