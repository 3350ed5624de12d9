use Rattle.std.proofs.Common.{◌≡◌, ◌+◌, ◌-◌, ◌*◌, ◌%◌, ◌<◌, ◌≤◌, Bool, false, List, ◌++◌, length, ap, ◌∙◌, subst, arith, replicate, take, drop}
use Rattle.std.specs.List.{flat_map}
use Rattle.std.specs.Vec.{vec_capacity}
use Rattle.vob.specs.Packed.{blocks_for}
use Rattle.vob.proofs.Pack as pack
use Rattle.vob.proofs.Shifted as shift
use Rattle.vob.proofs.Spell as spell
use Rattle.std.proofs.lemmas.List.Concat.{flat_map-append}
use Rattle.std.proofs.lemmas.Nat.{mod_below}
use Rattle.std.proofs.Math.Nat.{div-add-mod'}
use Rattle.vob.proofs.shift.join.Goals as goal

pub unwrap-requires : goal.unwrap-requires
unwrap-requires g c =
    let bits = g.T.Word.bits in
    let w = g.T.Word.BITS in
    let some = g.met.T.Word.some_law in
    let each = pack.width_of bits w g.T.Word.number g.met.T.Word.number_law in
    let n = c.args.len in
    let m = c.args.count in
    let b = c.BITS-width.result in
    let e = c.BITS-width.ensures in
    let xs = c.args.blocks.now in
    let ys = c.args.others.now in
    let all = flat_map bits xs.items in
    let others = flat_map bits ys in
    let first = pack.blocks_are bits w each xs.items n some c.requires.packs in
    let second = pack.blocks_are bits w each ys m some c.requires.others in
    let whole : n % w ≡ 0 = subst (λ i. n % i ≡ 0) e c.if-used-eq0.true in
    let both = shift.blocks_behind w n m some whole in
    let room = shift.at_most w (n + m) (vec_capacity xs) some c.requires.room in
    c.extend_from_slice.ensures.succeeds (omega (arith, xs.ok.0))

pub returns-then-used-eq0-clause-bits : goal.returns-then-used-eq0-clause-bits
returns-then-used-eq0-clause-bits g c =
    let bits = g.T.Word.bits in
    let w = g.T.Word.BITS in
    let some = g.met.T.Word.some_law in
    let each = pack.width_of bits w g.T.Word.number g.met.T.Word.number_law in
    let n = c.args.len in
    let m = c.args.count in
    let b = c.BITS-width.result in
    let e = c.BITS-width.ensures in
    let xs = c.args.blocks.now in
    let ys = c.args.others.now in
    let all = flat_map bits xs.items in
    let others = flat_map bits ys in
    let first = pack.blocks_are bits w each xs.items n some c.requires.packs in
    let second = pack.blocks_are bits w each ys m some c.requires.others in
    let whole : n % w ≡ 0 = subst (λ i. n % i ≡ 0) e c.if-used-eq0.true in
    let items : c.extend_from_slice.new.self.items ≡ xs.items ++ ys = shift.taken c.extend_from_slice.result c.unwrap.result _ _ _ c.unwrap.ensures c.extend_from_slice.ensures.items in
    ap (flat_map bits) items ∙ flat_map-append bits xs.items ys ∙ shift.joined_whole w n m all others some c.requires.packs c.requires.others whole

pub returns-then-count-eq0-clause-bits : goal.returns-then-count-eq0-clause-bits
returns-then-count-eq0-clause-bits g c =
    let bits = g.T.Word.bits in
    shift.joined_none g.T.Word.BITS c.args.len c.args.count (flat_map bits c.args.blocks.now.items) (flat_map bits c.args.others.now) c.requires.packs (omega arith)

pub overflow_sub-more : goal.overflow_sub-more
overflow_sub-more g c =
    let bits = g.T.Word.bits in
    let w = g.T.Word.BITS in
    let some = g.met.T.Word.some_law in
    let each = pack.width_of bits w g.T.Word.number g.met.T.Word.number_law in
    let n = c.args.len in
    let m = c.args.count in
    let b = c.BITS-width.result in
    let e = c.BITS-width.ensures in
    let xs = c.args.blocks.now in
    let ys = c.args.others.now in
    let all = flat_map bits xs.items in
    let others = flat_map bits ys in
    let first = pack.blocks_are bits w each xs.items n some c.requires.packs in
    let second = pack.blocks_are bits w each ys m some c.requires.others in
    let whole = pack.blocks_for-mono w n (n + m) some (omega arith) in
    omega (arith, xs.ok.0, c.fill_last.ensures.count)

pub append-requires-clause-there : goal.append-requires-clause-there
append-requires-clause-there g c =
    let bits = g.T.Word.bits in
    let w = g.T.Word.BITS in
    let some = g.met.T.Word.some_law in
    let each = pack.width_of bits w g.T.Word.number g.met.T.Word.number_law in
    let n = c.args.len in
    let m = c.args.count in
    let b = c.BITS-width.result in
    let e = c.BITS-width.ensures in
    let xs = c.args.blocks.now in
    let ys = c.args.others.now in
    let all = flat_map bits xs.items in
    let others = flat_map bits ys in
    let first = pack.blocks_are bits w each xs.items n some c.requires.packs in
    let second = pack.blocks_are bits w each ys m some c.requires.others in
    let r : n % b ≡ n % w = ap (λ i. n % i) e in
    let part : n % w ≡ 0 → ⊥ = λ z. absurd (omega (arith, c.if-used-eq0.false)) in
    let below = mod_below n w some in
    let u = b - n % b in
    let whole = pack.blocks_for-mono w n (n + m) some (omega arith) in
    let none = shift.no_block u w (omega arith) in
    let both = shift.together w n m some in
    omega (arith, xs.ok.0, c.fill_last.ensures.count)

pub append-requires-clause-room : goal.append-requires-clause-room
append-requires-clause-room g c =
    let bits = g.T.Word.bits in
    let w = g.T.Word.BITS in
    let some = g.met.T.Word.some_law in
    let each = pack.width_of bits w g.T.Word.number g.met.T.Word.number_law in
    let n = c.args.len in
    let m = c.args.count in
    let b = c.BITS-width.result in
    let e = c.BITS-width.ensures in
    let xs = c.args.blocks.now in
    let ys = c.args.others.now in
    let all = flat_map bits xs.items in
    let others = flat_map bits ys in
    let first = pack.blocks_are bits w each xs.items n some c.requires.packs in
    let second = pack.blocks_are bits w each ys m some c.requires.others in
    let whole = pack.blocks_for-mono w n (n + m) some (omega arith) in
    let room = shift.at_most w (n + m) (vec_capacity xs) some c.requires.room in
    omega (arith, xs.ok.0, c.fill_last.ensures.count, c.fill_last.ensures.capacity)

pub returns-clause-bits : goal.returns-clause-bits
returns-clause-bits g c =
    let bits = g.T.Word.bits in
    let w = g.T.Word.BITS in
    let some = g.met.T.Word.some_law in
    let each = pack.width_of bits w g.T.Word.number g.met.T.Word.number_law in
    let n = c.args.len in
    let m = c.args.count in
    let b = c.BITS-width.result in
    let e = c.BITS-width.ensures in
    let xs = c.args.blocks.now in
    let ys = c.args.others.now in
    let all = flat_map bits xs.items in
    let others = flat_map bits ys in
    let first = pack.blocks_are bits w each xs.items n some c.requires.packs in
    let second = pack.blocks_are bits w each ys m some c.requires.others in
    let r : n % b ≡ n % w = ap (λ i. n % i) e in
    let part : n % w ≡ 0 → ⊥ = λ z. absurd (omega (arith, c.if-used-eq0.false)) in
    let below = mod_below n w some in
    let u = b - n % b in
    let whole = pack.blocks_for-mono w n (n + m) some (omega arith) in
    let x = c.index-others-0.result in
    let k = c.blocks_for.result - c.len.result in
    let size = pack.blocks_for_is w m some in
    let here : 0 < length ys = shift.some_block w m (length ys) (omega arith) (omega (arith, c.requires.others.count, spell.length-spelled bits w each ys)) in
    let within : u ≤ length others = omega (arith, pack.times_mono 1 (length ys) w (omega arith), spell.length-spelled bits w each ys) in
    let same : w - n % w ≡ u = omega arith in
    let filled : u + n ≡ blocks_for w n * w = omega (arith, pack.blocks_for_part w n some part, div-add-mod' n w) in
    let more : k + blocks_for w n ≡ blocks_for w (n + m) = omega (arith, xs.ok.0, c.fill_last.ensures.count) in
    let front = take (w - n % w) (bits x) in
    let is : front ≡ take u others = shift.first_bits bits w each ys x (w - n % w) here c.index-others-0.is (omega arith) ∙ ap (λ i. take i others) same in
    c.append.ensures.bits
    ∙ ap (λ (zs : List Bool). zs ++ take (k * w) (drop u others ++ replicate (u % w) false)) c.fill_last.ensures.bits
    ∙ shift.joined_part w n m (take n all) others front u k some c.requires.others filled (omega arith) within more is
