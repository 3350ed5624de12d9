use Rattle.std.proofs.Common.{◌-◌, ◌||◌, ap₂, ◌∙◌, arith}
use Rattle.vob.specs.Bits.{bitwise}
use Rattle.vob.proofs.Pack as pack
use Rattle.vob.proofs.Shifted as shift
use Rattle.vob.proofs.shift.block_from.Goals as goal

pub returns-then-by-eq0 : goal.returns-then-by-eq0
returns-then-by-eq0 g c =
    let bits = g.T.Word.bits in
    let w = g.T.Word.BITS in
    let some = g.met.T.Word.some_law in
    let each = pack.width_of bits w g.T.Word.number g.met.T.Word.number_law in
    c.moved_down-low.ensures ∙ shift.read_whole bits w each c.args.blocks.now c.args.at c.args.by c.index-blocks-at.result c.requires.there (omega arith) c.index-blocks-at.is

pub returns-then-at-blocks : goal.returns-then-at-blocks
returns-then-at-blocks g c =
    let bits = g.T.Word.bits in
    let w = g.T.Word.BITS in
    let some = g.met.T.Word.some_law in
    let each = pack.width_of bits w g.T.Word.number g.met.T.Word.number_law in
    c.moved_down-low.ensures ∙ shift.read_last bits w each c.args.blocks.now c.args.at c.args.by c.index-blocks-at.result (omega arith) (omega arith) c.index-blocks-at.is

pub returns : goal.returns
returns g c =
    let bits = g.T.Word.bits in
    let w = g.T.Word.BITS in
    let some = g.met.T.Word.some_law in
    let each = pack.width_of bits w g.T.Word.number g.met.T.Word.number_law in
    let up = c.BITS-width.result - c.args.by in
    c.in_either.ensures
    ∙ ap₂ (bitwise (λ a b. a || b)) c.moved_down-low.ensures c.moved_up.ensures
    ∙ shift.read_two bits w each c.args.blocks.now c.args.at c.args.by up c.index-blocks-at.result c.index-blocks-at-2.result (omega arith) (omega arith) (omega arith) c.index-blocks-at.is c.index-blocks-at-2.is
