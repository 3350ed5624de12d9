use Rattle.std.proofs.Common.{◌≡◌, ◌-◌, ◌/◌, ◌%◌, Bool, false, List, ◌||◌, ◌++◌, get_or, set, ap, ap₂, ◌∙◌, subst, arith, rules, replicate, take}
use Rattle.std.specs.List.{flat_map}
use Rattle.vob.specs.Bits.{bitwise}
use Rattle.vob.proofs.Pack as pack
use Rattle.std.proofs.lemmas.Nat.{mod_below}
use Rattle.std.proofs.Math.Nat.{div-add-mod'}
use Rattle.vob.proofs.packed.fill_above.Goals as goal

pub returns-then-used-eq0-clause-bits : goal.returns-then-used-eq0-clause-bits
returns-then-used-eq0-clause-bits g c =
    let bits = g.T.Word.bits in
    let w = g.T.Word.BITS in
    let some = g.met.T.Word.some_law in
    let each = pack.width_of bits w g.T.Word.number g.met.T.Word.number_law in
    let whole : c.args.len % w ≡ 0 = subst (λ b. c.args.len % b ≡ 0) c.BITS-width.ensures c.if-used-eq0.true in
    pack.nothing_above w c.args.len (flat_map bits c.args.blocks.now.items) c.args.value (pack.blocks_for_whole w c.args.len some whole)

pub index_mut-block-requires : goal.index_mut-block-requires
index_mut-block-requires g c =
    let bits = g.T.Word.bits in
    let w = g.T.Word.BITS in
    let some = g.met.T.Word.some_law in
    let each = pack.width_of bits w g.T.Word.number g.met.T.Word.number_law in
    let part : c.args.len % w ≡ 0 → ⊥ = subst (λ b. c.args.len % b ≡ 0 → ⊥) c.BITS-width.ensures c.if-used-eq0.false in
    let room = pack.blocks_for_part w c.args.len some part in
    let m = mod_below c.args.len w some in
    let e = div-add-mod' c.args.len w in
    let h = pack.block_below bits w each c.args.blocks.now.items c.args.len c.BITS-width.result some c.BITS-width.ensures (omega arith) in
    search rules

pub returns-clause-bits : goal.returns-clause-bits
returns-clause-bits g c =
    let bits = g.T.Word.bits in
    let w = g.T.Word.BITS in
    let some = g.met.T.Word.some_law in
    let each = pack.width_of bits w g.T.Word.number g.met.T.Word.number_law in
    let n = c.args.len in
    let xs = c.args.blocks.now.items in
    let x = c.index_mut-block.result.now in
    let v = c.args.value in
    let e = c.BITS-width.ensures in
    let part : n % w ≡ 0 → ⊥ = subst (λ b. n % b ≡ 0 → ⊥) e c.if-used-eq0.false in
    let r = mod_below n w some in
    let is : x ≡ get_or xs (n / w) x = subst (λ b. x ≡ get_or xs (n / b) x) e c.index_mut-block.ensures.value in
    let low : bits c.low_part.result ≡ take (n % w) (bits x) ++ replicate (w - n % w) false = subst (λ b. bits c.low_part.result ≡ take (n % b) (bits x) ++ replicate (w - n % b) false) e c.low_part.ensures in
    let up : bits c.moved_up.result ≡ replicate (n % w) false ++ take (w - n % w) (replicate w v) = subst (λ b. bits c.moved_up.result ≡ replicate (n % b) false ++ take (w - n % b) (bits c.all.result)) e c.moved_up.ensures ∙ ap (λ (ys : List Bool). replicate (n % w) false ++ take (w - n % w) ys) c.all.ensures in
    let new : bits c.in_either.result ≡ take (n % w) (bits x) ++ replicate (w - n % w) v =
    c.in_either.ensures ∙ ap₂ (bitwise (λ a b. a || b)) low up ∙ pack.joined w (n % w) (bits x) v (each x) (omega arith) in
    ap (λ b. flat_map bits (set xs (n / b) c.in_either.result)) e ∙ pack.refilled bits w each xs n x c.in_either.result v some part c.requires is new
