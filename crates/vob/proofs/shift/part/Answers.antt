use Rattle.std.proofs.Common.{ℕ, ◌*◌, ◌%◌, false, ◌++◌, ap₂, ◌∙◌, arith, replicate, take, drop}
use Rattle.std.specs.List.{flat_map}
use Rattle.vob.proofs.Pack as pack
use Rattle.vob.proofs.Shifted as shift
use Rattle.vob.proofs.shift.part.Goals as goal

pub append-requires-clause-there : goal.append-requires-clause-there
append-requires-clause-there g c =
    let bits = g.T.Word.bits in
    let w = g.T.Word.BITS in
    let some = g.met.T.Word.some_law in
    let each = pack.width_of bits w g.T.Word.number g.met.T.Word.number_law in
    let n = pack.blocks_are bits w each c.args.blocks.now c.args.len some c.requires.packs in
    omega (arith, shift.part_fits w c.args.len c.args.at some c.requires.within)

pub returns-clause-bits : goal.returns-clause-bits
returns-clause-bits g c =
    let bits = g.T.Word.bits in
    let w = g.T.Word.BITS in
    let some = g.met.T.Word.some_law in
    let each = pack.width_of bits w g.T.Word.number g.met.T.Word.number_law in
    let all = flat_map bits c.args.blocks.now in
    let at = c.args.at in
    c.append.ensures.bits
    ∙ ap₂ (λ xs (i : ℕ). flat_map bits xs ++ take (i * w) (drop at all ++ replicate (at % w) false)) c.in_ok-made.ensures.items c.blocks_for-count.ensures
    ∙ shift.parted w c.args.len at all some c.requires.packs c.requires.within
