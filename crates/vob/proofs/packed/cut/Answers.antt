use Rattle.std.proofs.Common.{◌-◌, ◌*◌, false, length, ap, ◌∙◌, arith, replicate, take}
use Rattle.std.specs.List.{flat_map}
use Rattle.vob.specs.Packed.{blocks_for}
use Rattle.vob.proofs.Pack as pack
use Rattle.vob.proofs.packed.cut.Goals as goal

pub fill_above-requires : goal.fill_above-requires
fill_above-requires g c =
    let bits = g.T.Word.bits in
    let w = g.T.Word.BITS in
    let some = g.met.T.Word.some_law in
    let each = pack.width_of bits w g.T.Word.number g.met.T.Word.number_law in
    let xs = c.args.blocks.now.items in
    let is = c.truncate.ensures.items ∙ ap (λ k. take k xs) c.blocks_for.ensures in
    let l = ap (λ ys. length (flat_map bits ys)) is ∙ pack.length_cut_down bits w each xs c.args.len some c.requires in
    omega arith

pub returns-clause-bits : goal.returns-clause-bits
returns-clause-bits g c =
    let bits = g.T.Word.bits in
    let w = g.T.Word.BITS in
    let some = g.met.T.Word.some_law in
    let each = pack.width_of bits w g.T.Word.number g.met.T.Word.number_law in
    let xs = c.args.blocks.now.items in
    let n = c.args.len in
    let is = c.truncate.ensures.items ∙ ap (λ k. take k xs) c.blocks_for.ensures in
    let l = ap (λ ys. length (flat_map bits ys)) is ∙ pack.length_cut_down bits w each xs n some c.requires in
    let front = ap (flat_map bits) is ∙ (pack.cut_down bits w each xs n some c.requires).0 in
    c.fill_above.ensures.bits ∙ pack.cut_is n (blocks_for w n * w) (flat_map bits xs) (flat_map bits c.truncate.new.self.items) (replicate (blocks_for w n * w - n) false) (pack.blocks_for_is w n some).0 front l
