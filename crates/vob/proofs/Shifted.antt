-- Blocks read from the index of any bit, and items behind items.
use Rattle.std.proofs.Common.{◌≡◌, ℕ, suc, zero, ◌+◌, ◌-◌, ◌*◌, ◌/◌, ◌%◌, ◌<◌, ◌≤◌, Bool, false, ◌||◌, List, [], ◌∷◌, ◌++◌, length, get_or, set, take, drop, replicate, sym, ap, ap₂, ◌∙◌, arith}
use Rattle.std.specs.List.{flat_map}
use Rattle.std.specs.Prelude.{Result, Ok, Err, is_ok, if◌then◌else◌}
use Rattle.std.proofs.lemmas.List.{length-take, length-drop, length-replicate, append_assoc, append-nil, take-append-drop, take-append-le, drop-append-le, take-replicate, take-take, take_all, drop_all, drop-drop, replicate-append-replicate}
use Rattle.std.proofs.lemmas.List.Concat.{flat_map-append}
use Rattle.std.proofs.lemmas.Nat.{div_below, mod_below, mod-mul-add}
use Rattle.std.proofs.Math.Seq.{take-add, take-append-add}
use Rattle.std.proofs.Math.Nat.{div-add-mod'}
use Rattle.vob.specs.Bits.{bitwise}
use Rattle.vob.specs.Packed.{Packs, blocks_for}
use Rattle.vob.proofs.Pack as pack
use Rattle.vob.proofs.Spell as spell

-- where k blocks have room for n items, these take no more than k blocks
pub at_most : (w n k : ℕ) → 0 < w → n ≤ k * w → blocks_for w n ≤ k
at_most w n k h le =
    let m = pack.blocks_for-mono w n (k * w) h le in
    let e = pack.blocks_for_unique w (k * w) k h (omega arith) (omega arith) in
    omega arith

pub remainder : (u w : ℕ) → u < w → u % w ≡ u
remainder u w h =
    let z : 0 * w + u ≡ u = omega arith in
    ap (λ i. i % w) (sym z) ∙ mod-mul-add 0 w u h

-- items with false ones behind them, cut behind the items
pub cut_behind : (items : List Bool) (n e p : ℕ) → length items ≡ n → e ≤ p → take (n + e) (items ++ replicate p false) ≡ items ++ replicate e false
cut_behind items n e p l h =
    ap (λ k. take (k + e) (items ++ replicate p false)) (sym l)
    ∙ take-append-add items (replicate p false) e
    ∙ ap (λ (xs : List Bool). items ++ xs) (take-replicate e p false h)

module _ {T : Type 0} (bits : T → List Bool) (w : ℕ) (each : (x : T) → length (bits x) ≡ w) where
  -- what lies from an index of the block k on
  from_index : (xs : List T) (k by : ℕ) (x : T) → k < length xs → by ≤ w → x ≡ get_or xs k x → drop (k * w + by) (flat_map bits xs) ≡ drop by (bits x) ++ drop (k * w + w) (flat_map bits xs)
  from_index xs k by x h le is =
      let all = flat_map bits xs in
      let block : drop (k * w) all ≡ bits x ++ drop (k * w + w) all =
      sym (take-append-drop w (drop (k * w) all))
      ∙ ap₂ (λ (ys : List Bool) (zs : List Bool). ys ++ zs) (sym (pack.block_is bits w each xs k x h) ∙ ap bits (sym is)) (drop-drop w (k * w) all) in
      sym (drop-drop by (k * w) all) ∙ ap (drop by) block ∙ drop-append-le by (bits x) (drop (k * w + w) all) (omega (arith, each x))

  -- as many bits as a block has, from there on
  read : (xs : List T) (k by : ℕ) (x : T) → k < length xs → by ≤ w → x ≡ get_or xs k x → take w (drop (k * w + by) (flat_map bits xs) ++ replicate by false) ≡ drop by (bits x) ++ take by (drop (k * w + w) (flat_map bits xs) ++ replicate by false)
  read xs k by x h le is =
      let rest = drop (k * w + w) (flat_map bits xs) in
      let e : w ≡ length (drop by (bits x)) + by = omega (arith, length-drop by (bits x), each x) in
      ap (λ (ys : List Bool). take w (ys ++ replicate by false)) (from_index xs k by x h le is)
      ∙ ap (take w) (append_assoc (drop by (bits x)) rest (replicate by false))
      ∙ ap (λ n. take n (drop by (bits x) ++ (rest ++ replicate by false))) e
      ∙ take-append-add (drop by (bits x)) (rest ++ replicate by false) by

  pub read_whole : (xs : List T) (k by : ℕ) (x : T) → k < length xs → by ≡ 0 → x ≡ get_or xs k x → drop by (bits x) ++ replicate by false ≡ take w (drop (k * w + by) (flat_map bits xs) ++ replicate by false)
  read_whole xs k by x h e is =
      sym (read xs k by x h (omega arith) is ∙ ap (λ n. drop by (bits x) ++ take n (drop (k * w + w) (flat_map bits xs) ++ replicate by false)) e ∙ ap (λ n. drop by (bits x) ++ replicate n false) (sym e))

  pub read_last : (xs : List T) (k by : ℕ) (x : T) → k + 1 ≡ length xs → by ≤ w → x ≡ get_or xs k x → drop by (bits x) ++ replicate by false ≡ take w (drop (k * w + by) (flat_map bits xs) ++ replicate by false)
  read_last xs k by x h le is =
      let all = flat_map bits xs in
      let l : length all ≡ (k + 1) * w = spell.length-spelled bits w each xs ∙ ap (λ n. n * w) (sym h) in
      let none : drop (k * w + w) all ≡ [] = drop_all (k * w + w) all (omega arith) in
      let end : take by (replicate by false) ≡ replicate by false = take_all by (replicate by false) (omega (arith, length-replicate by false)) in
      sym (read xs k by x (omega arith) le is ∙ ap (λ (ys : List Bool). drop by (bits x) ++ take by (ys ++ replicate by false)) none ∙ ap (λ (ys : List Bool). drop by (bits x) ++ ys) end)

  pub read_two : (xs : List T) (k by up : ℕ) (x y : T) → k + 1 < length xs → by ≤ w → up ≡ w - by → x ≡ get_or xs k x → y ≡ get_or xs (k + 1) y → bitwise (λ a b. a || b) (drop by (bits x) ++ replicate by false) (replicate up false ++ take (w - up) (bits y)) ≡ take w (drop (k * w + by) (flat_map bits xs) ++ replicate by false)
  read_two xs k by up x y h le e is next =
      let all = flat_map bits xs in
      let u : w - up ≡ by = omega arith in
      let rest = drop ((k + 1) * w + w) all in
      let n : k * w + w ≡ (k + 1) * w + 0 = omega arith in
      let behind : drop (k * w + w) all ≡ bits y ++ rest = ap (λ i. drop i all) n ∙ from_index xs (k + 1) 0 y h (omega arith) next in
      let low : take by (drop (k * w + w) all ++ replicate by false) ≡ take by (bits y) =
      ap (λ (ys : List Bool). take by (ys ++ replicate by false)) behind ∙ ap (take by) (append_assoc (bits y) rest (replicate by false)) ∙ take-append-le by (bits y) (rest ++ replicate by false) (omega (arith, each y)) in
      let one : length (drop by (bits x)) ≡ up = omega (arith, length-drop by (bits x), each x) in
      let two : length (take (w - up) (bits y)) ≡ by = omega (arith, length-take (w - up) (bits y), each y) in
      pack.or_above (drop by (bits x)) (take (w - up) (bits y)) up by one two
      ∙ ap (λ i. drop by (bits x) ++ take i (bits y)) u
      ∙ sym (read xs k by x (omega arith) le is ∙ ap (λ (ys : List Bool). drop by (bits x) ++ ys) low)

  -- one more block is added
  pub one_more : (xs others : List T) (b : T) (old : List Bool) (from k : ℕ) → 0 < w → from / w + k < length others
      → flat_map bits xs ≡ old ++ take (k * w) (drop from (flat_map bits others) ++ replicate (from % w) false)
      → bits b ≡ take w (drop ((from / w + k) * w + from % w) (flat_map bits others) ++ replicate (from % w) false)
      → flat_map bits (xs ++ b ∷ []) ≡ old ++ take ((k + 1) * w) (drop from (flat_map bits others) ++ replicate (from % w) false)
  one_more xs others b old from k pos h sofar is =
      let all = flat_map bits others in
      let z = replicate (from % w) false in
      let l = spell.length-spelled bits w each others in
      let m = div-add-mod' from w in
      let r = mod_below from w pos in
      let whole : (from / w + k + 1) * w ≤ length others * w = pack.times_mono (from / w + k + 1) (length others) w (omega arith) in
      let at : from + k * w ≡ (from / w + k) * w + from % w = omega arith in
      let room : k * w ≤ length (drop from all) = omega (arith, length-drop from all) in
      let rest : drop (k * w) (drop from all ++ z) ≡ drop ((from / w + k) * w + from % w) all ++ z =
      drop-append-le (k * w) (drop from all) z room ∙ ap (λ (ys : List Bool). ys ++ z) (drop-drop (k * w) from all ∙ ap (λ i. drop i all) at) in
      let more : take (k * w) (drop from all ++ z) ++ bits b ≡ take ((k + 1) * w) (drop from all ++ z) =
      ap (λ (ys : List Bool). take (k * w) (drop from all ++ z) ++ ys) (is ∙ ap (take w) (sym rest)) ∙ sym (take-add (k * w) w (drop from all ++ z)) ∙ ap (λ i. take i (drop from all ++ z)) (omega arith) in
      flat_map-append bits xs (b ∷ [])
      ∙ ap₂ (λ (ys : List Bool) (zs : List Bool). ys ++ zs) sofar (append-nil (bits b))
      ∙ append_assoc old (take (k * w) (drop from all ++ z)) (bits b)
      ∙ ap (λ (ys : List Bool). old ++ ys) more

  -- the last block's unused bits are written
  pub filled_last : (xs : List T) (n : ℕ) (x y b : T) → 0 < w → Packs w n (flat_map bits xs) → (n % w ≡ 0 → ⊥) → x ≡ get_or xs (n / w) x → bits y ≡ bitwise (λ a b. a || b) (bits x) (replicate (n % w) false ++ take (w - n % w) (bits b)) → flat_map bits (set xs (n / w) y) ≡ take n (flat_map bits xs) ++ take (w - n % w) (bits b)
  filled_last xs n x y b pos p part is new =
      let all = flat_map bits xs in
      let m = div-add-mod' n w in
      let r = mod_below n w pos in
      let bf = pack.blocks_for_part w n pos part in
      let e = pack.blocks_are bits w each xs n pos p in
      let here : n / w < length xs = div_below n w (length xs) pos (omega (arith, spell.length-spelled bits w each xs, p.count)) in
      let u : blocks_for w n * w - n ≡ w - n % w = omega arith in
      let unused : drop (n % w) (bits x) ≡ replicate (w - n % w) false = sym (pack.last_rest bits w each xs n x pos e part is) ∙ p.unused ∙ ap (λ k. replicate k false) u in
      let old : bits x ≡ take (n % w) (bits x) ++ replicate (w - n % w) false = sym (take-append-drop (n % w) (bits x)) ∙ ap (λ (ys : List Bool). take (n % w) (bits x) ++ ys) unused in
      let added = take (w - n % w) (bits b) in
      let one : length (take (n % w) (bits x)) ≡ n % w = omega (arith, length-take (n % w) (bits x), each x) in
      let two : length added ≡ w - n % w = omega (arith, length-take (w - n % w) (bits b), each b) in
      let written : bits y ≡ take (n % w) (bits x) ++ added =
      new ∙ ap (λ (ys : List Bool). bitwise (λ a b. a || b) ys (replicate (n % w) false ++ added)) old ∙ pack.or_above (take (n % w) (bits x)) added (n % w) (w - n % w) one two in
      let low : take (n % w) (bits x) ≡ take (n % w) (drop (n / w * w) all) =
      ap (λ z. take (n % w) (bits z)) is ∙ ap (take (n % w)) (pack.block_is bits w each xs (n / w) x here) ∙ take-take (n % w) w (drop (n / w * w) all) (omega arith) in
      let front : take (n / w * w) all ++ take (n % w) (bits x) ≡ take n all = ap (λ (ys : List Bool). take (n / w * w) all ++ ys) low ∙ sym (take-add (n / w * w) (n % w) all) ∙ ap (λ k. take k all) m in
      let none : drop (n / w * w + w) all ≡ [] = drop_all (n / w * w + w) all (omega (arith, p.count)) in
      pack.changed bits w each xs (n / w) y here
      ∙ ap₂ (λ (ys : List Bool) (zs : List Bool). take (n / w * w) all ++ (ys ++ zs)) written none
      ∙ ap (λ (ys : List Bool). take (n / w * w) all ++ ys) (append-nil (take (n % w) (bits x) ++ added))
      ∙ sym (append_assoc (take (n / w * w) all) (take (n % w) (bits x)) added)
      ∙ ap (λ (ys : List Bool). ys ++ added) front

  -- the first block's bits are the first bits
  pub first_bits : (xs : List T) (x : T) (u : ℕ) → 0 < length xs → x ≡ get_or xs 0 x → u ≤ w → take u (bits x) ≡ take u (flat_map bits xs)
  first_bits xs x u h is le =
      let z : 0 * w ≡ 0 = omega arith in
      let block : bits (get_or xs 0 x) ≡ take w (drop (0 * w) (flat_map bits xs)) = pack.block_is bits w each xs 0 x h in
      ap (λ y. take u (bits y)) is ∙ ap (take u) block ∙ take-take u w (drop (0 * w) (flat_map bits xs)) le ∙ ap (λ i. take u (drop i (flat_map bits xs))) z

-- ---- joined lists

-- n items end with a block, so m items more take as many blocks as alone
pub blocks_behind : (w n m : ℕ) → 0 < w → n % w ≡ 0 → blocks_for w n + blocks_for w m ≡ blocks_for w (n + m)
blocks_behind w n m pos e =
    let b = pack.blocks_for_whole w n pos e in
    let c = pack.blocks_for_is w m pos in
    pack.blocks_for_unique w (n + m) (blocks_for w n + blocks_for w m) pos (omega arith) (omega arith)

pub joined_whole : (w n m : ℕ) (all others : List Bool) → 0 < w → Packs w n all → Packs w m others → n % w ≡ 0 → all ++ others ≡ (take n all ++ take m others) ++ replicate (blocks_for w (n + m) * w - (n + m)) false
joined_whole w n m all others pos p q e =
    let b = pack.blocks_for_whole w n pos e in
    let c = pack.blocks_for_is w m pos in
    let size : (blocks_for w n + blocks_for w m) * w ≡ blocks_for w (n + m) * w = ap (λ i. i * w) (blocks_behind w n m pos e) in
    let u : blocks_for w m * w - m ≡ blocks_for w (n + m) * w - (n + m) = omega arith in
    let l : take n all ≡ all = take_all n all (omega (arith, p.count)) in
    ap₂ (λ (xs : List Bool) (ys : List Bool). xs ++ ys) (sym l) (pack.opened w m others q)
    ∙ sym (append_assoc (take n all) (take m others) (replicate (blocks_for w m * w - m) false))
    ∙ ap (λ i. (take n all ++ take m others) ++ replicate i false) u

-- no item follows
pub joined_none : (w n m : ℕ) (all others : List Bool) → Packs w n all → m ≡ 0 → all ≡ (take n all ++ take m others) ++ replicate (blocks_for w (n + m) * w - (n + m)) false
joined_none w n zero all others p e =
    let a : n + 0 ≡ n = omega arith in
    pack.opened w n all p ∙ ap₂ (λ (xs : List Bool) (i : ℕ). xs ++ replicate (blocks_for w i * w - i) false) (sym (append-nil (take n all))) (sym a)
joined_none w n (suc m) all others p e = absurd (omega arith)

-- some items take some block
pub some_block : (w m k : ℕ) → 0 < m → m ≤ k * w → 0 < k
some_block w m zero h le = absurd (omega arith)
some_block w m (suc k) h le = omega arith

-- a part of a block is no whole one
pub no_block : (u w : ℕ) → u < w → u / w ≡ 0
no_block u w h = let b = div_below u w 1 (omega arith) (omega arith) in omega arith

-- what a call gives where it is not refused
pub taken : {X A E : Type 0} (r : Result A E) (v : A) (a b c : X) → r ≡ Ok v → c ≡ (if is_ok r then a else b) → c ≡ a
taken (Ok x) v a b c e h = h
taken (Err y) v a b c e h = cc

-- both lists have room in as many blocks as they have
pub together : (w n m : ℕ) → 0 < w → blocks_for w (n + m) ≤ blocks_for w n + blocks_for w m
together w n m pos =
    let a = pack.blocks_for_is w n pos in
    let b = pack.blocks_for_is w m pos in
    at_most w (n + m) (blocks_for w n + blocks_for w m) pos (omega arith)

-- u items fill the last block, and the rest follows in whole blocks
pub joined_part : (w n m : ℕ) (all others front : List Bool) (u k : ℕ) → 0 < w → Packs w m others → u + n ≡ blocks_for w n * w → u < w → u ≤ length others → k + blocks_for w n ≡ blocks_for w (n + m) → front ≡ take u others
    → (all ++ front) ++ take (k * w) (drop u others ++ replicate (u % w) false) ≡ (all ++ take m others) ++ replicate (blocks_for w (n + m) * w - (n + m)) false
joined_part w n m all others front u k pos q filled below within more is =
    let c = pack.blocks_for_is w (n + m) pos in
    let d = pack.blocks_for_is w m pos in
    let t = pack.times_mono (blocks_for w (n + m)) (blocks_for w n + blocks_for w m) w (together w n m pos) in
    let e = blocks_for w (n + m) * w - (n + m) in
    let p = blocks_for w m * w - m in
    let z = replicate (u % w) false in
    let s : (k + blocks_for w n) * w ≡ blocks_for w (n + m) * w = ap (λ i. i * w) more in
    let small = remainder u w below in
    let sum : u + k * w ≡ m + e = omega arith in
    let padded : others ++ z ≡ take m others ++ replicate (p + u % w) false =
    ap (λ (xs : List Bool). xs ++ z) (pack.opened w m others q) ∙ append_assoc (take m others) (replicate p false) z ∙ ap (λ (xs : List Bool). take m others ++ xs) (replicate-append-replicate p (u % w) false) in
    let tail : take u others ++ take (k * w) (drop u others ++ z) ≡ take m others ++ replicate e false =
    ap₂ (λ (xs : List Bool) (ys : List Bool). xs ++ take (k * w) ys) (sym (take-append-le u others z within)) (sym (drop-append-le u others z within))
    ∙ sym (take-add u (k * w) (others ++ z))
    ∙ ap₂ (λ (i : ℕ) (xs : List Bool). take i xs) sum padded
    ∙ cut_behind (take m others) m e (p + u % w) (pack.length_kept w m others pos q) (omega arith) in
    append_assoc all front (take (k * w) (drop u others ++ z))
    ∙ ap (λ (xs : List Bool). all ++ (xs ++ take (k * w) (drop u others ++ z))) is
    ∙ ap (λ (xs : List Bool). all ++ xs) tail
    ∙ sym (append_assoc all (take m others) (replicate e false))

-- ---- a list's end

-- the blocks from an index on
pub part_fits : (w n at : ℕ) → 0 < w → at ≤ n → at / w + blocks_for w (n - at) ≤ blocks_for w n
part_fits w n at pos le =
    let m = div-add-mod' at w in
    let a = pack.blocks_for_is w n pos in
    let low = at_most w (at / w * w) (blocks_for w n) pos (omega arith) in
    let same = pack.blocks_for_unique w (at / w * w) (at / w) pos (omega arith) (omega arith) in
    let e : blocks_for w n - at / w + at / w ≡ blocks_for w n = omega arith in
    let d : (blocks_for w n - at / w) * w + at / w * w ≡ blocks_for w n * w = (omega arith) ∙ ap (λ i. i * w) e in
    let k = at_most w (n - at) (blocks_for w n - at / w) pos (omega arith) in
    omega arith

pub parted : (w n at : ℕ) (all : List Bool) → 0 < w → Packs w n all → at ≤ n → take (blocks_for w (n - at) * w) (drop at all ++ replicate (at % w) false) ≡ drop at (take n all) ++ replicate (blocks_for w (n - at) * w - (n - at)) false
parted w n at all pos p le =
    let l = pack.length_kept w n all pos p in
    let u = blocks_for w n * w - n in
    let m = div-add-mod' at w in
    let c = pack.blocks_for_is w (n - at) pos in
    let a = pack.blocks_for_is w n pos in
    let fits = pack.times_mono (at / w + blocks_for w (n - at)) (blocks_for w n) w (part_fits w n at pos le) in
    let e = blocks_for w (n - at) * w - (n - at) in
    let items = drop at (take n all) in
    let size : length items ≡ n - at = omega (arith, length-drop at (take n all)) in
    let padded : drop at all ++ replicate (at % w) false ≡ items ++ replicate (u + at % w) false =
    ap (λ (xs : List Bool). drop at xs ++ replicate (at % w) false) (pack.opened w n all p)
    ∙ ap (λ (xs : List Bool). xs ++ replicate (at % w) false) (drop-append-le at (take n all) (replicate u false) (omega arith))
    ∙ append_assoc items (replicate u false) (replicate (at % w) false)
    ∙ ap (λ (xs : List Bool). items ++ xs) (replicate-append-replicate u (at % w) false) in
    let sum : blocks_for w (n - at) * w ≡ n - at + e = omega arith in
    ap₂ (λ (i : ℕ) (xs : List Bool). take i xs) sum padded ∙ cut_behind items (n - at) e (u + at % w) size (omega arith)
