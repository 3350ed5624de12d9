use Rattle.std.proofs.Common.{◌≡◌, ◌-◌, ◌/◌, ◌%◌, false, ◌||◌, ◌++◌, get_or, set, ap, ◌∙◌, subst, arith, replicate, take}
use Rattle.std.specs.List.{flat_map}
use Rattle.vob.specs.Bits.{bitwise}
use Rattle.vob.proofs.Pack as pack
use Rattle.vob.proofs.Shifted as shift
use Rattle.std.proofs.lemmas.Nat.{mod_below}
use Rattle.std.proofs.Math.Nat.{div-add-mod'}
use Rattle.vob.proofs.shift.fill_last.Goals as goal

pub index_mut-last-requires : goal.index_mut-last-requires
index_mut-last-requires g c =
    let bits = g.T.Word.bits in
    let w = g.T.Word.BITS in
    let some = g.met.T.Word.some_law in
    let each = pack.width_of bits w g.T.Word.number g.met.T.Word.number_law in
    let n = c.args.len in
    let xs = c.args.blocks.now in
    let part : n % w ≡ 0 → ⊥ = λ e. absurd (omega (arith, c.requires.part)) in
    let b = pack.blocks_for_part w n some part in
    let m = div-add-mod' n w in
    let r = mod_below n w some in
    let h = pack.block_below bits w each xs.items n c.BITS-width.result some c.BITS-width.ensures (omega (arith, c.requires.packs.count)) in
    omega (arith, xs.ok.0)

pub returns-clause-bits : goal.returns-clause-bits
returns-clause-bits g c =
    let bits = g.T.Word.bits in
    let w = g.T.Word.BITS in
    let some = g.met.T.Word.some_law in
    let each = pack.width_of bits w g.T.Word.number g.met.T.Word.number_law in
    let n = c.args.len in
    let xs = c.args.blocks.now.items in
    let x = c.index_mut-last.result.now in
    let y = c.in_either.result in
    let e = c.BITS-width.ensures in
    let part : n % w ≡ 0 → ⊥ = λ z. absurd (omega (arith, c.requires.part)) in
    let is : x ≡ get_or xs (n / w) x = subst (λ b. x ≡ get_or xs (n / b) x) e c.index_mut-last.ensures.value in
    let up : bits c.moved_up.result ≡ replicate (n % w) false ++ take (w - n % w) (bits c.args.block) = subst (λ b. bits c.moved_up.result ≡ replicate (n % b) false ++ take (w - n % b) (bits c.args.block)) e c.moved_up.ensures in
    let new : bits y ≡ bitwise (λ a b. a || b) (bits x) (replicate (n % w) false ++ take (w - n % w) (bits c.args.block)) = c.in_either.ensures ∙ ap (bitwise (λ a b. a || b) (bits x)) up in
    ap (λ b. flat_map bits (set xs (n / b) y)) e ∙ shift.filled_last bits w each xs n x y c.args.block some c.requires.packs part is new
