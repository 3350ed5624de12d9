use Rattle.std.proofs.Common.{◌≡◌, ◌+◌, ◌-◌, ◌*◌, ◌++◌, length, ap, ap₂, ◌∙◌, arith, replicate, take, drop}
use Rattle.std.specs.List.{flat_map}
use Rattle.vob.specs.Packed.{blocks_for}
use Rattle.vob.proofs.Pack as pack
use Rattle.std.proofs.lemmas.List.{length-append, length-replicate, length-take, length-drop}
use Rattle.vob.proofs.Rooms as rooms
use Rattle.std.specs.Vec.{vec_capacity}
use Rattle.vob.proofs.packed.widen.Goals as goal

pub returns-in_err-resize-clause-room : goal.returns-in_err-resize-clause-room
returns-in_err-resize-clause-room g c =
    λ h. let enough = rooms.blocks_fit g.T.Word.BITS c.args.new_len (vec_capacity c.args.blocks.now) g.met.T.Word.some_law h in
    absurd (omega (arith, c.in_err-resize.ensures.full))

pub fill_above-requires : goal.fill_above-requires
fill_above-requires g c =
    let bits = g.T.Word.bits in
    let w = g.T.Word.BITS in
    let some = g.met.T.Word.some_law in
    let each = pack.width_of bits w g.T.Word.number g.met.T.Word.number_law in
    let m = c.args.len in
    let n = c.args.new_len in
    let v = c.args.value in
    let xs = c.args.blocks.now.items in
    let all = flat_map bits xs in
    let b = c.args.blocks.now in
    let items : c.resize.new.self.items ≡ take (blocks_for w n) xs ++ replicate (blocks_for w n - length xs) c.all.result = c.in_ok-resize.ensures.items ∙ ap₂ (λ i j. take i xs ++ replicate (i - j) c.all.result) c.blocks_for.ensures b.ok.0 in
    let first : flat_map bits c.resize.new.self.items ≡ all ++ replicate (blocks_for w n * w - blocks_for w m * w) v = ap (flat_map bits) items ∙ pack.widened bits w each xs m n c.all.result v some c.requires.packs c.requires.more c.all.ensures in
    let mono = pack.times_mono (blocks_for w m) (blocks_for w n) w (pack.blocks_for-mono w m n some c.requires.more) in
    let size : length (flat_map bits c.resize.new.self.items) ≡ blocks_for w n * w = ap length first ∙ length-append all (replicate (blocks_for w n * w - blocks_for w m * w) v) ∙ ap₂ (λ i j. i + j) c.requires.packs.count (length-replicate (blocks_for w n * w - blocks_for w m * w) v) ∙ (omega arith) in
    omega arith

pub fill_above-requires-2 : goal.fill_above-requires-2
fill_above-requires-2 g c =
    let bits = g.T.Word.bits in
    let w = g.T.Word.BITS in
    let some = g.met.T.Word.some_law in
    let each = pack.width_of bits w g.T.Word.number g.met.T.Word.number_law in
    let m = c.args.len in
    let n = c.args.new_len in
    let v = c.args.value in
    let xs = c.args.blocks.now.items in
    let all = flat_map bits xs in
    let b = c.args.blocks.now in
    let items : c.resize.new.self.items ≡ take (blocks_for w n) xs ++ replicate (blocks_for w n - length xs) c.all.result = c.in_ok-resize.ensures.items ∙ ap₂ (λ i j. take i xs ++ replicate (i - j) c.all.result) c.blocks_for.ensures b.ok.0 in
    let first : flat_map bits c.resize.new.self.items ≡ all ++ replicate (blocks_for w n * w - blocks_for w m * w) v = ap (flat_map bits) items ∙ pack.widened bits w each xs m n c.all.result v some c.requires.packs c.requires.more c.all.ensures in
    let mono = pack.times_mono (blocks_for w m) (blocks_for w n) w (pack.blocks_for-mono w m n some c.requires.more) in
    let size : length (flat_map bits c.resize.new.self.items) ≡ blocks_for w n * w = ap length first ∙ length-append all (replicate (blocks_for w n * w - blocks_for w m * w) v) ∙ ap₂ (λ i j. i + j) c.requires.packs.count (length-replicate (blocks_for w n * w - blocks_for w m * w) v) ∙ (omega arith) in
    let a = pack.blocks_for_is w m some in
    let second = ap length c.fill_above.ensures.bits ∙ length-append (take m (flat_map bits c.resize.new.self.items)) (replicate (blocks_for w m * w - m) v ++ drop (blocks_for w m * w) (flat_map bits c.resize.new.self.items)) ∙ ap₂ (λ i j. i + j) (length-take m (flat_map bits c.resize.new.self.items)) (length-append (replicate (blocks_for w m * w - m) v) (drop (blocks_for w m * w) (flat_map bits c.resize.new.self.items)) ∙ ap₂ (λ i j. i + j) (length-replicate (blocks_for w m * w - m) v) (length-drop (blocks_for w m * w) (flat_map bits c.resize.new.self.items))) in
    omega arith

pub returns-clause-ok : goal.returns-clause-ok
returns-clause-ok g c =
    let bits = g.T.Word.bits in
    let w = g.T.Word.BITS in
    let some = g.met.T.Word.some_law in
    let each = pack.width_of bits w g.T.Word.number g.met.T.Word.number_law in
    let m = c.args.len in
    let n = c.args.new_len in
    let v = c.args.value in
    let xs = c.args.blocks.now.items in
    let all = flat_map bits xs in
    let b = c.args.blocks.now in
    let items : c.resize.new.self.items ≡ take (blocks_for w n) xs ++ replicate (blocks_for w n - length xs) c.all.result = c.in_ok-resize.ensures.items ∙ ap₂ (λ i j. take i xs ++ replicate (i - j) c.all.result) c.blocks_for.ensures b.ok.0 in
    let first : flat_map bits c.resize.new.self.items ≡ all ++ replicate (blocks_for w n * w - blocks_for w m * w) v = ap (flat_map bits) items ∙ pack.widened bits w each xs m n c.all.result v some c.requires.packs c.requires.more c.all.ensures in
    let mono = pack.times_mono (blocks_for w m) (blocks_for w n) w (pack.blocks_for-mono w m n some c.requires.more) in
    let size : length (flat_map bits c.resize.new.self.items) ≡ blocks_for w n * w = ap length first ∙ length-append all (replicate (blocks_for w n * w - blocks_for w m * w) v) ∙ ap₂ (λ i j. i + j) c.requires.packs.count (length-replicate (blocks_for w n * w - blocks_for w m * w) v) ∙ (omega arith) in
    pack.widened_is w m n all (flat_map bits c.resize.new.self.items) (flat_map bits c.fill_above.new.blocks.items) (flat_map bits c.fill_above-2.new.blocks.items) v some c.requires.packs c.requires.more first c.fill_above.ensures.bits c.fill_above-2.ensures.bits
