-- Items in blocks.
use Rattle.std.proofs.Common.{◌≡◌, ℕ, suc, zero, ◌+◌, ◌-◌, ◌*◌, ◌/◌, ◌%◌, ◌<◌, ◌≤◌, ◌↔◌, Bool, true, false, not, ◌||◌, eqb, cond, List, [], ◌∷◌, ◌++◌, length, get_or, set, take, drop, replicate, refl, sym, ap, ap₂, ◌∙◌, subst, arith, inl, inr}
use Rattle.std.specs.Prelude.{Result, Ok, Err, OnErr, OnOk}
use Rattle.std.specs.List.{flat_map}
use Rattle.std.proofs.lemmas.List.{length-append, length-take, length-drop, length-replicate, length-set, append_assoc, append-nil, take_at, drop_at, take-append-drop, take-append-le, take-replicate, drop-set-lt, take-take, set-append_right, replicate-append-replicate, take_all, drop_all, drop-drop}
use Rattle.std.proofs.lemmas.Nat.{div_below, mod_below}
use Rattle.std.proofs.Math.Seq.{take-add, take-append-add, drop-append-add}
use Rattle.std.proofs.Math.Nat.{div-add-mod', mul-le-mul_right}
use mathlib.Core.Bool.{beq}
use Rattle.std.proofs.lemmas.Bool.{cases_lt, eqb-true, eq-eqb, ne_eqb}
use Rattle.std.proofs.lemmas.List.Concat.{flat_map-append}
use Rattle.vob.specs.Bits.{bitwise}
use Rattle.vob.specs.Packed.{Packs, blocks_for}
use Rattle.vob.specs.Digits.{digits}
use Rattle.vob.proofs.Digit as digit
use Rattle.vob.proofs.Spell as spell

-- each block has its width
pub width_of : {T : Type 0} (bits : T → List Bool) (w : ℕ) (of : T → ℕ) → ((x : T) → bits x ≡ digits w (of x)) → (x : T) → length (bits x) ≡ w
width_of bits w of law x = ap length (law x) ∙ digit.length-digits w (of x)

-- the block of an index
pub block_below : {T : Type 0} (bits : T → List Bool) (w : ℕ) → ((x : T) → length (bits x) ≡ w) → (xs : List T) (i b : ℕ) → 0 < w → b ≡ w → i < length (flat_map bits xs) → i / b < length xs
block_below bits w each xs i b p e h =
    let n : i < length xs * w = omega (arith, spell.length-spelled bits w each xs) in
    rw e (div_below i w (length xs) p n)

-- what stands at an index
pub bit_there : {T : Type 0} (bits : T → List Bool) (w : ℕ) → ((x : T) → length (bits x) ≡ w) → (xs : List T) (i b : ℕ) (x : T) → 0 < w → b ≡ w → i < length (flat_map bits xs) → x ≡ get_or xs (i / b) x → get_or (bits x) (i % b) false ≡ get_or (flat_map bits xs) i false
bit_there bits w each xs i b x p e h is =
    let n : i / w < length xs = subst (λ v. i / v < length xs) e (block_below bits w each xs i b p e h) in
    let here : x ≡ get_or xs (i / w) x = subst (λ v. x ≡ get_or xs (i / v) x) e is in
    ap (λ v. get_or (bits x) (i % v) false) e
    ∙ ap (λ y. get_or (bits y) (i % w) false) here
    ∙ sym (spell.get_or-spelled_at bits w each xs i x p n)

-- a block with another item there
pub bit_written : {T : Type 0} (bits : T → List Bool) (w : ℕ) → ((x : T) → length (bits x) ≡ w) → (xs : List T) (i b : ℕ) (x y : T) (v : Bool) → 0 < w → b ≡ w → i < length (flat_map bits xs) → x ≡ get_or xs (i / b) x → bits y ≡ set (bits x) (i % b) v → flat_map bits (set xs (i / b) y) ≡ set (flat_map bits xs) i v
bit_written bits w each xs i b x y v p e h is written =
    let n : i / w < length xs = subst (λ v. i / v < length xs) e (block_below bits w each xs i b p e h) in
    let here : x ≡ get_or xs (i / w) x = subst (λ v. x ≡ get_or xs (i / v) x) e is in
    let put : bits y ≡ set (bits (get_or xs (i / w) x)) (i % w) v = written ∙ ap₂ (λ z u. set (bits z) (i % u) v) here e in
    ap (λ u. flat_map bits (set xs (i / u) y)) e ∙ spell.set-spelled_at bits w each xs i x y v p n put

-- a list with nothing set past n items
pub take-set_in : (n : ℕ) (xs : List Bool) (i : ℕ) (v : Bool) → i < n → take n (set xs i v) ≡ set (take n xs) i v
take-set_in zero xs i v h = absurd (omega arith)
take-set_in (suc n) [] i v h = refl
take-set_in (suc n) (x ∷ xs) zero v h = refl
take-set_in (suc n) (x ∷ xs) (suc i) v h = ap (λ (ys : List Bool). x ∷ ys) (take-set_in n xs i v (omega arith))

pub beq-true : (a b : Bool) → beq a b ≡ true → a ≡ b
beq-true true true h = refl
beq-true true false h = cc
beq-true false true h = cc
beq-true false false h = refl

-- ---- how many blocks

rounded : (q r w : ℕ) → r < w → (q * w + r ≤ (q + cond (eqb r 0) 0 1) * w) × ((q + cond (eqb r 0) 0 1) * w < q * w + r + w)
rounded q zero w h = (omega arith, omega arith)
rounded q (suc r) w h =
    let e : eqb (suc r) 0 ≡ false = ne_eqb (suc r) 0 (λ z. absurd (omega arith)) in
    rw e (omega arith, omega arith)

-- the blocks have room for n items, and one block less has not
pub blocks_for_is : (w n : ℕ) → 0 < w → (n ≤ blocks_for w n * w) × (blocks_for w n * w < n + w)
blocks_for_is w n h =
    let p = rounded (n / w) (n % w) w (mod_below n w h) in
    let e = div-add-mod' n w in
    (omega (arith, p.0, e), omega (arith, p.1, e))

fewer : (a b w : ℕ) → a * w < b * w + w → a ≤ b
fewer a b w h =
    elim (cases_lt b a) [
      | inl p ↦ absurd (let q : (b + 1) * w ≤ a * w = mul-le-mul_right w (omega arith) in omega arith)
      | inr p ↦ p
    ]

pub blocks_for_unique : (w n m : ℕ) → 0 < w → n ≤ m * w → m * w < n + w → m ≡ blocks_for w n
blocks_for_unique w n m h low high =
    let p = blocks_for_is w n h in
    let a = fewer m (blocks_for w n) w (omega arith) in
    let b = fewer (blocks_for w n) m w (omega arith) in
    omega arith

pub blocks_for-mono : (w m n : ℕ) → 0 < w → m ≤ n → blocks_for w m ≤ blocks_for w n
blocks_for-mono w m n h le =
    let p = blocks_for_is w m h in
    let q = blocks_for_is w n h in
    fewer (blocks_for w m) (blocks_for w n) w (omega arith)

-- n items end with a block
pub blocks_for_whole : (w n : ℕ) → 0 < w → n % w ≡ 0 → blocks_for w n * w ≡ n
blocks_for_whole w n h e =
    let m : n / w * w ≡ n = omega (arith, div-add-mod' n w) in
    let u = blocks_for_unique w n (n / w) h (omega arith) (omega arith) in
    ap (λ k. k * w) (sym u) ∙ m

pub blocks_for_part : (w n : ℕ) → 0 < w → (n % w ≡ 0 → ⊥) → blocks_for w n * w ≡ n / w * w + w
blocks_for_part w n h e =
    let m = div-add-mod' n w in
    let r = mod_below n w h in
    let pos : 0 < n % w = omega arith in
    let u = blocks_for_unique w n (n / w + 1) h (omega arith) (omega arith) in
    ap (λ k. k * w) (sym u) ∙ (omega arith)

-- one item more
pub blocks_for_next_whole : (w n : ℕ) → 0 < w → n % w ≡ 0 → blocks_for w (n + 1) * w ≡ n + w
blocks_for_next_whole w n h e =
    let m : n / w * w ≡ n = omega (arith, div-add-mod' n w) in
    let u = blocks_for_unique w (n + 1) (n / w + 1) h (omega arith) (omega arith) in
    ap (λ k. k * w) (sym u) ∙ (omega arith)

pub blocks_for_next_part : (w n : ℕ) → 0 < w → (n % w ≡ 0 → ⊥) → blocks_for w (n + 1) ≡ blocks_for w n
blocks_for_next_part w n h e =
    let m = div-add-mod' n w in
    let r = mod_below n w h in
    let pos : 0 < n % w = omega arith in
    let u = blocks_for_unique w (n + 1) (n / w + 1) h (omega arith) (omega arith) in
    let v = blocks_for_unique w n (n / w + 1) h (omega arith) (omega arith) in
    sym u ∙ v

times_less : (a b w : ℕ) → b ≤ a → (a - b) * w ≡ a * w - b * w
times_less a b w h =
    let e : a - b + b ≡ a = omega arith in
    let d : (a - b) * w + b * w ≡ a * w = (omega arith) ∙ ap (λ k. k * w) e in
    omega arith

pub times_mono : (a b w : ℕ) → a ≤ b → a * w ≤ b * w
times_mono a b w h = mul-le-mul_right w h

-- ---- what is kept

pub length_kept : (w n : ℕ) (all : List Bool) → 0 < w → Packs w n all → length (take n all) ≡ n
length_kept w n all h p =
    let q = blocks_for_is w n h in
    length-take n all ∙ (omega (arith, p.count))

-- the items, and the unused bits
pub opened : (w n : ℕ) (all : List Bool) → Packs w n all → all ≡ take n all ++ replicate (blocks_for w n * w - n) false
opened w n all p = sym (take-append-drop n all) ∙ ap (λ (xs : List Bool). take n all ++ xs) p.unused

-- what is kept after a change
pub closed : (w n : ℕ) (items all : List Bool) → 0 < w → all ≡ items ++ replicate (blocks_for w n * w - n) false → length items ≡ n → Packs w n all
closed w n items all h is e =
    let q = blocks_for_is w n h in
    let u = blocks_for w n * w - n in
    record {
      count = ap length is ∙ length-append items (replicate u false) ∙ ap₂ (λ a b. a + b) e (length-replicate u false) ∙ (omega arith);
      unused = ap (drop n) is ∙ drop_at items (replicate u false) n e;
    }

pub kept : (n u : ℕ) (items all : List Bool) → all ≡ items ++ replicate u false → length items ≡ n → take n all ≡ items
kept n u items all is e = ap (take n) is ∙ take_at items (replicate u false) n e

-- an item is written
pub packs-set : (w n : ℕ) (all : List Bool) (i : ℕ) (v : Bool) → Packs w n all → i < n → Packs w n (set all i v)
packs-set w n all i v p h =
    record {
      count = length-set all i v ∙ p.count;
      unused = drop-set-lt n all i v h ∙ p.unused;
    }

-- an item is added
pub pushed : (w n : ℕ) (all new : List Bool) (v : Bool) → 0 < w → Packs w n all → new ≡ set (take n all ++ replicate (blocks_for w (n + 1) * w - n) false) n v → new ≡ (take n all ++ v ∷ []) ++ replicate (blocks_for w (n + 1) * w - (n + 1)) false
pushed w n all new v h p is =
    let l = length_kept w n all h p in
    let q = blocks_for_is w (n + 1) h in
    let r = blocks_for w (n + 1) * w - (n + 1) in
    let e : blocks_for w (n + 1) * w - n ≡ suc r = omega arith in
    let low : n ≤ n = omega arith in
    let z : n - n ≡ 0 = omega arith in
    is
    ∙ set-append_right (take n all) (replicate (blocks_for w (n + 1) * w - n) false) n n v l low
    ∙ ap₂ (λ (i : ℕ) (m : ℕ). take n all ++ set (replicate m false) i v) z e
    ∙ sym (append_assoc (take n all) (v ∷ []) (replicate r false))

-- ---- a block is changed

module _ {T : Type 0} (bits : T → List Bool) (w : ℕ) (each : (x : T) → length (bits x) ≡ w) where
  -- before it, it, and after it
  pub changed : (xs : List T) (k : ℕ) (b : T) → k < length xs → flat_map bits (set xs k b) ≡ take (k * w) (flat_map bits xs) ++ (bits b ++ drop (k * w + w) (flat_map bits xs))
  changed [] k b h = absurd (omega arith)
  changed (x ∷ xs) zero b h =
      let a : 0 * w ≡ 0 = omega arith in
      let c : 0 * w + w ≡ w = omega arith in
      rw (c, a) (ap (λ ys. bits b ++ ys) (sym (drop_at (bits x) (flat_map bits xs) w (each x))))
  changed (x ∷ xs) (suc k) b h =
      let a : suc k * w ≡ length (bits x) + k * w = omega (arith, each x) in
      let c : suc k * w + w ≡ length (bits x) + (k * w + w) = omega (arith, each x) in
      rw (c, a, take-append-add, drop-append-add) (ap (λ ys. bits x ++ ys) (changed xs k b (omega arith)) ∙ sym (append_assoc (bits x) (take (k * w) (flat_map bits xs)) (bits b ++ drop (k * w + w) (flat_map bits xs))))

  -- the block at k
  pub block_is : (xs : List T) (k : ℕ) (d : T) → k < length xs → bits (get_or xs k d) ≡ take w (drop (k * w) (flat_map bits xs))
  block_is [] k d h = absurd (omega arith)
  block_is (x ∷ xs) zero d h =
      let a : 0 * w ≡ 0 = omega arith in
      rw a (sym (take_at (bits x) (flat_map bits xs) w (each x)))
  block_is (x ∷ xs) (suc k) d h =
      let a : suc k * w ≡ length (bits x) + k * w = omega (arith, each x) in
      rw (a, drop-append-add) (block_is xs k d (omega arith))

  -- the block of the index n keeps what lies below it, and has one value from it on
  pub refilled : (xs : List T) (n : ℕ) (x y : T) (v : Bool) → 0 < w → (n % w ≡ 0 → ⊥) → blocks_for w n * w ≤ length (flat_map bits xs) → x ≡ get_or xs (n / w) x → bits y ≡ take (n % w) (bits x) ++ replicate (w - n % w) v → flat_map bits (set xs (n / w) y) ≡ take n (flat_map bits xs) ++ (replicate (blocks_for w n * w - n) v ++ drop (blocks_for w n * w) (flat_map bits xs))
  refilled xs n x y v pos part room is new =
      let all = flat_map bits xs in
      let m = div-add-mod' n w in
      let r = mod_below n w pos in
      let b = blocks_for_part w n pos part in
      let here : n / w < length xs = div_below n w (length xs) pos (omega (arith, spell.length-spelled bits w each xs)) in
      let u : w - n % w ≡ blocks_for w n * w - n = omega arith in
      let low : take (n % w) (bits x) ≡ take (n % w) (drop (n / w * w) all) =
      ap (λ z. take (n % w) (bits z)) is ∙ ap (take (n % w)) (block_is xs (n / w) x here) ∙ take-take (n % w) w (drop (n / w * w) all) (omega arith) in
      let front : take (n / w * w) all ++ take (n % w) (drop (n / w * w) all) ≡ take n all = sym (take-add (n / w * w) (n % w) all) ∙ ap (λ k. take k all) m in
      changed xs (n / w) y here
      ∙ ap₂ (λ (ys : List Bool) (k : ℕ). take (n / w * w) all ++ (ys ++ drop k all)) (new ∙ ap₂ (λ (ys : List Bool) (k : ℕ). ys ++ replicate k v) low u) (sym b)
      ∙ ap (λ (ys : List Bool). take (n / w * w) all ++ ys) (append_assoc (take (n % w) (drop (n / w * w) all)) (replicate (blocks_for w n * w - n) v) (drop (blocks_for w n * w) all))
      ∙ sym (append_assoc (take (n / w * w) all) (take (n % w) (drop (n / w * w) all)) (replicate (blocks_for w n * w - n) v ++ drop (blocks_for w n * w) all))
      ∙ ap (λ (ys : List Bool). ys ++ (replicate (blocks_for w n * w - n) v ++ drop (blocks_for w n * w) all)) front

  -- copies of one block
  pub spelled-replicate : (k : ℕ) (x : T) (v : Bool) → bits x ≡ replicate w v → flat_map bits (replicate k x) ≡ replicate (k * w) v
  spelled-replicate zero x v e =
      let a : 0 * w ≡ 0 = omega arith in
      rw a refl
  spelled-replicate (suc k) x v e =
      let a : w + k * w ≡ suc k * w = omega arith in
      ap₂ (λ (ys : List Bool) (zs : List Bool). ys ++ zs) e (spelled-replicate k x v e) ∙ replicate-append-replicate w (k * w) v ∙ ap (λ n. replicate n v) a

  -- the first blocks that n items take
  pub cut_down : (xs : List T) (n : ℕ) → 0 < w → n ≤ length (flat_map bits xs) → (flat_map bits (take (blocks_for w n) xs) ≡ take (blocks_for w n * w) (flat_map bits xs)) × (blocks_for w n ≤ length xs)
  cut_down xs n h room =
      let l = spell.length-spelled bits w each xs in
      let p = blocks_for_is w n h in
      let le = fewer (blocks_for w n) (length xs) w (omega (arith, l)) in
      (sym (spell.take-spelled bits w each (blocks_for w n) xs le), le)

  pub length_cut_down : (xs : List T) (n : ℕ) → 0 < w → n ≤ length (flat_map bits xs) → length (flat_map bits (take (blocks_for w n) xs)) ≡ blocks_for w n * w
  length_cut_down xs n h room =
      let c = cut_down xs n h room in
      spell.length-spelled bits w each (take (blocks_for w n) xs) ∙ ap (λ k. k * w) (length-take (blocks_for w n) xs ∙ (omega (arith, c.1)))

  -- as many blocks as the items take
  pub blocks_are : (xs : List T) (n : ℕ) → 0 < w → Packs w n (flat_map bits xs) → length xs ≡ blocks_for w n
  blocks_are xs n h p =
      let l = spell.length-spelled bits w each xs in
      let a = fewer (length xs) (blocks_for w n) w (omega (arith, l, p.count)) in
      let b = fewer (blocks_for w n) (length xs) w (omega (arith, l, p.count)) in
      omega arith

  -- more blocks of one value
  pub widened : (xs : List T) (m n : ℕ) (x : T) (v : Bool) → 0 < w → Packs w m (flat_map bits xs) → m ≤ n → bits x ≡ replicate w v → flat_map bits (take (blocks_for w n) xs ++ replicate (blocks_for w n - length xs) x) ≡ flat_map bits xs ++ replicate (blocks_for w n * w - blocks_for w m * w) v
  widened xs m n x v h p le same =
      let k = blocks_are xs m h p in
      let mono = blocks_for-mono w m n h le in
      let e : (blocks_for w n - length xs) * w ≡ blocks_for w n * w - blocks_for w m * w = ap (λ a. (blocks_for w n - a) * w) k ∙ times_less (blocks_for w n) (blocks_for w m) w mono in
      flat_map-append bits (take (blocks_for w n) xs) (replicate (blocks_for w n - length xs) x)
      ∙ ap₂ (λ (ys : List T) (zs : List Bool). flat_map bits ys ++ zs) (take_all (blocks_for w n) xs (omega arith)) (spelled-replicate (blocks_for w n - length xs) x v same ∙ ap (λ a. replicate a v) e)

-- ---- what the parts of a change come to

pub nothing_above : (w n : ℕ) (all : List Bool) (v : Bool) → blocks_for w n * w ≡ n → all ≡ take n all ++ (replicate (blocks_for w n * w - n) v ++ drop (blocks_for w n * w) all)
nothing_above w n all v e =
    let z : n - n ≡ 0 = omega arith in
    rw (e, z) (sym (take-append-drop n all))

-- bits below and bits above
pub or_above : (xs zs : List Bool) (r u : ℕ) → length xs ≡ r → length zs ≡ u → bitwise (λ x y. x || y) (xs ++ replicate u false) (replicate r false ++ zs) ≡ xs ++ zs
or_above [] [] zero u p q = let e : u ≡ 0 = omega arith in rw e refl
or_above [] (z ∷ zs) zero zero p q = cc
or_above [] (z ∷ zs) zero (suc u) p q = ap (λ (ys : List Bool). z ∷ ys) (or_above [] zs zero u refl (omega arith))
or_above [] zs (suc r) u p q = cc
or_above (x ∷ xs) zs zero u p q = cc
or_above (true ∷ xs) zs (suc r) u p q = ap (λ (ys : List Bool). true ∷ ys) (or_above xs zs r u (omega arith) q)
or_above (false ∷ xs) zs (suc r) u p q = ap (λ (ys : List Bool). false ∷ ys) (or_above xs zs r u (omega arith) q)

-- a block whose bits from the index r on have one value
pub joined : (w r : ℕ) (xs : List Bool) (v : Bool) → length xs ≡ w → r ≤ w → bitwise (λ x y. x || y) (take r xs ++ replicate (w - r) false) (replicate r false ++ take (w - r) (replicate w v)) ≡ take r xs ++ replicate (w - r) v
joined w r xs v l h =
    let e = take-replicate (w - r) w v (omega arith) in
    rw e (or_above (take r xs) (replicate (w - r) v) r (w - r) (length-take r xs ∙ (omega arith)) (length-replicate (w - r) v))

pub cut_is : (n m : ℕ) (all front rest : List Bool) → n ≤ m → front ≡ take m all → length front ≡ m → take n front ++ (rest ++ drop m front) ≡ take n all ++ rest
cut_is n m all front rest h is l =
    let none : drop m front ≡ [] = drop_all m front (omega arith) in
    let low : take n front ≡ take n all = ap (take n) is ∙ take-take n m all h in
    rw (none, append-nil) (ap (λ (xs : List Bool). xs ++ rest) low)

-- the two fillings that follow more blocks
pub widened_is : (w m n : ℕ) (all first second last : List Bool) (v : Bool) → 0 < w → Packs w m all → m ≤ n
    → first ≡ all ++ replicate (blocks_for w n * w - blocks_for w m * w) v
    → second ≡ take m first ++ (replicate (blocks_for w m * w - m) v ++ drop (blocks_for w m * w) first)
    → last ≡ take n second ++ (replicate (blocks_for w n * w - n) false ++ drop (blocks_for w n * w) second)
    → last ≡ (take m all ++ replicate (n - m) v) ++ replicate (blocks_for w n * w - n) false
widened_is w m n all first second last v h p le one two three =
    let a = blocks_for_is w m h in
    let b = blocks_for_is w n h in
    let mono = times_mono (blocks_for w m) (blocks_for w n) w (blocks_for-mono w m n h le) in
    let more = blocks_for w n * w - blocks_for w m * w in
    let kept = length_kept w m all h p in
    let low : take m first ≡ take m all = ap (take m) one ∙ take-append-le m all (replicate more v) (omega (arith, p.count)) in
    let high : drop (blocks_for w m * w) first ≡ replicate more v = ap (drop (blocks_for w m * w)) one ∙ drop_at all (replicate more v) (blocks_for w m * w) p.count in
    let e : blocks_for w m * w - m + more ≡ blocks_for w n * w - m = omega arith in
    let whole : second ≡ take m all ++ replicate (blocks_for w n * w - m) v =
    two ∙ ap₂ (λ (xs : List Bool) (ys : List Bool). xs ++ ys) low (ap (λ (ys : List Bool). replicate (blocks_for w m * w - m) v ++ ys) high ∙ replicate-append-replicate (blocks_for w m * w - m) more v ∙ ap (λ k. replicate k v) e) in
    let size : length second ≡ blocks_for w n * w = ap length whole ∙ length-append (take m all) (replicate (blocks_for w n * w - m) v) ∙ ap₂ (λ i j. i + j) kept (length-replicate (blocks_for w n * w - m) v) ∙ (omega arith) in
    let none : drop (blocks_for w n * w) second ≡ [] = drop_all (blocks_for w n * w) second (omega arith) in
    let d : n ≡ length (take m all) + (n - m) = omega arith in
    let front : take n second ≡ take m all ++ replicate (n - m) v =
    ap (take n) whole ∙ ap (λ k. take k (take m all ++ replicate (blocks_for w n * w - m) v)) d ∙ take-append-add (take m all) (replicate (blocks_for w n * w - m) v) (n - m) ∙ ap (λ (ys : List Bool). take m all ++ ys) (take-replicate (n - m) (blocks_for w n * w - m) v (omega arith)) in
    three ∙ ap₂ (λ (xs : List Bool) (ys : List Bool). xs ++ (replicate (blocks_for w n * w - n) false ++ ys)) front none ∙ ap (λ (ys : List Bool). (take m all ++ replicate (n - m) v) ++ ys) (append-nil (replicate (blocks_for w n * w - n) false))

-- the room for one more item
pub covered_by_block : (w n : ℕ) (all none : List Bool) → 0 < w → Packs w n all → n % w ≡ 0 → none ≡ replicate w false → all ++ (none ++ []) ≡ take n all ++ replicate (blocks_for w (n + 1) * w - n) false
covered_by_block w n all none h p e is =
    let whole = blocks_for_whole w n h e in
    let next = blocks_for_next_whole w n h e in
    let k : blocks_for w (n + 1) * w - n ≡ w = omega arith in
    let l : take n all ≡ all = take_all n all (omega (arith, p.count)) in
    rw (k, l) (ap (λ (ys : List Bool). all ++ ys) (append-nil none ∙ is))

pub covered : (w n : ℕ) (all : List Bool) → 0 < w → Packs w n all → (n % w ≡ 0 → ⊥) → all ≡ take n all ++ replicate (blocks_for w (n + 1) * w - n) false
covered w n all h p e =
    opened w n all p ∙ ap (λ k. take n all ++ replicate (k * w - n) false) (sym (blocks_for_next_part w n h e))

-- with that room, the next item has a place
pub place_of_next : (w n : ℕ) (all : List Bool) → 0 < w → Packs w n all → n < length (take n all ++ replicate (blocks_for w (n + 1) * w - n) false)
place_of_next w n all h p =
    let l = length_kept w n all h p in
    let q = blocks_for_is w (n + 1) h in
    let u = blocks_for w (n + 1) * w - n in
    let size : length (take n all ++ replicate u false) ≡ n + u = length-append (take n all) (replicate u false) ∙ ap₂ (λ a b. a + b) l (length-replicate u false) in
    omega arith

-- what holds whatever the result is
pub on_err : {A E : Type 0} (r : Result A E) (P : Type 0) → P → OnErr r P
on_err (Ok x) P p = tt
on_err (Err e) P p = p

pub false_is_true : false ≡ true → ⊥
false_is_true e = cc

pub not_itself : (v : Bool) → v ≡ not v → ⊥
not_itself true e = cc
not_itself false e = cc

pub beq_not : (a b : Bool) → beq a b ≡ false → a ≡ not b
beq_not true true h = cc
beq_not true false h = refl
beq_not false true h = refl
beq_not false false h = cc

pub nil_is : (n : ℕ) (xs : List Bool) → length xs ≡ n → eqb n 0 ≡ true → xs ≡ []
nil_is n [] e h = refl
nil_is n (x ∷ xs) e h = absurd (let z = eqb-true n 0 h in omega arith)

pub is_nil : (n : ℕ) (xs : List Bool) → length xs ≡ n → xs ≡ [] → eqb n 0 ≡ true
is_nil n xs e h = eq-eqb n 0 (sym e ∙ ap length h)

pub ok_gives : {A E : Type 0} (r : Result A E) {x : A} (P : Type 0) → r ≡ Ok x → OnOk r P → P
ok_gives (Ok y) P e h = h
ok_gives (Err y) P e h = cc

module _ {T : Type 0} (bits : T → List Bool) (w : ℕ) (each : (x : T) → length (bits x) ≡ w) where
  pub counted_length : (xs : List T) (n : ℕ) → length xs ≡ blocks_for w n → length (flat_map bits xs) ≡ blocks_for w n * w
  counted_length xs n e = spell.length-spelled bits w each xs ∙ ap (λ k. k * w) e

  pub whole_spelled : (xs : List T) (n : ℕ) → 0 < w → length xs ≡ blocks_for w n → n % w ≡ 0 → drop n (flat_map bits xs) ≡ replicate (blocks_for w n * w - n) false
  whole_spelled xs n pos e whole =
      let b = blocks_for_whole w n pos whole in
      let z : blocks_for w n * w - n ≡ 0 = omega arith in
      drop_all n (flat_map bits xs) (omega (arith, counted_length xs n e)) ∙ ap (λ k. replicate k false) (sym z)

  -- what lies from the end of the items on
  pub last_rest : (xs : List T) (n : ℕ) (x : T) → 0 < w → length xs ≡ blocks_for w n → (n % w ≡ 0 → ⊥) → x ≡ get_or xs (n / w) x → drop n (flat_map bits xs) ≡ drop (n % w) (bits x)
  last_rest xs n x pos e part is =
      let all = flat_map bits xs in
      let m = div-add-mod' n w in
      let r = mod_below n w pos in
      let b = blocks_for_part w n pos part in
      let l = counted_length xs n e in
      let here : n / w < length xs = div_below n w (length xs) pos (omega (arith, spell.length-spelled bits w each xs)) in
      let block : bits x ≡ drop (n / w * w) all = ap bits is ∙ block_is bits w each xs (n / w) x here ∙ take_all w (drop (n / w * w) all) (omega (arith, length-drop (n / w * w) all)) in
      ap (λ k. drop k all) (sym m) ∙ sym (drop-drop (n % w) (n / w * w) all) ∙ ap (drop (n % w)) (sym block)

  -- the last block has no unused bit set
  pub part_spelled : (xs : List T) (n : ℕ) (x y : T) (s : Bool) → 0 < w → length xs ≡ blocks_for w n → (n % w ≡ 0 → ⊥) → x ≡ get_or xs (n / w) x → bits y ≡ take (n % w) (bits x) ++ replicate (w - n % w) false → ((s ≡ true) ↔ (bits x ≡ bits y)) → (s ≡ true) ↔ ((length xs ≡ blocks_for w n) × (drop n (flat_map bits xs) ≡ replicate (blocks_for w n * w - n) false))
  part_spelled xs n x y s pos e part is low test =
      let m = div-add-mod' n w in
      let r = mod_below n w pos in
      let b = blocks_for_part w n pos part in
      let u : w - n % w ≡ blocks_for w n * w - n = omega arith in
      let rest = last_rest xs n x pos e part is in
      let front : length (take (n % w) (bits x)) ≡ n % w = length-take (n % w) (bits x) ∙ (omega (arith, each x)) in (
        λ t. (e, rest ∙ ap (drop (n % w)) (test.0 t ∙ low) ∙ drop_at (take (n % w) (bits x)) (replicate (w - n % w) false) (n % w) front ∙ ap (λ k. replicate k false) u),
        λ h. test.1 (sym (take-append-drop (n % w) (bits x)) ∙ ap (λ (ys : List Bool). take (n % w) (bits x) ++ ys) (sym rest ∙ h.1 ∙ ap (λ k. replicate k false) (sym u)) ∙ sym low),
      )

-- no item takes no block
pub no_blocks : {T : Type 0} (bits : T → List Bool) (w : ℕ) → ((x : T) → length (bits x) ≡ w) → (xs : List T) (n : ℕ) → 0 < w → Packs w n (flat_map bits xs) → n ≡ 0 → length xs ≡ 0
no_blocks bits w each xs n some packs none = blocks_are bits w each xs n some packs ∙ (ap (blocks_for w) none ∙ sym (blocks_for_unique w 0 0 some (omega arith) (omega arith)))
