-- Iterators over the indices of a list's items.
use Rattle.std.proofs.Common.{◌≡◌, ℕ, suc, zero, ◌+◌, ◌-◌, ◌*◌, ◌/◌, ◌%◌, ◌<◌, ◌≤◌, min, Bool, true, false, not, cond, List, [], ◌∷◌, ◌++◌, length, get_or, take, drop, replicate, map, refl, sym, ap, ap₂, ◌∙◌, arith, inl, inr}
use Rattle.std.specs.List.{flat_map, filter, range_with_len}
use Rattle.std.proofs.lemmas.List.{get_or_default, get_or_append_left, get_or-append_right, get_or-drop, get_or-take, length-drop, length-take, length-map, length-replicate, get_or-map, drop-append-le, drop-take}
use Rattle.std.proofs.lemmas.Nat.{mod_below}
use Rattle.std.proofs.lemmas.Bool.{cases_lt}
use Rattle.std.proofs.Math.Nat.{div-add-mod'}
use Rattle.vob.proofs.Spell as spell
use Rattle.vob.proofs.Pack as pack
use Rattle.vob.specs.Bits.{count_true}
use Rattle.vob.specs.Walk.{has_item, indices_of}

has_is : (v : Bool) (bits : List Bool) (i : ℕ) → i < length bits → get_or bits i false ≡ v → has_item v bits i ≡ true
has_is true bits i h e = e
has_is false bits i h e = ap not (get_or_default bits i true false h ∙ e)

has_not : (v : Bool) (bits : List Bool) (i : ℕ) → i < length bits → get_or bits i false ≡ not v → has_item v bits i ≡ false
has_not true bits i h e = e
has_not false bits i h e = ap not (get_or_default bits i true false h ∙ e)

-- ---- filters of a run of numbers

none_pass : (p : ℕ → Bool) (n a : ℕ) → ((i : ℕ) → a ≤ i → i < a + n → p i ≡ false) → filter p (range_with_len a n) ≡ []
none_pass p zero a h = refl
none_pass p (suc n) a h =
    let e : p a ≡ false = h a (omega arith) (omega arith) in
    rw e (none_pass p n (a + 1) (λ i low high. h i (omega arith) (omega arith)))

range_split : (m n a : ℕ) → range_with_len a (m + n) ≡ range_with_len a m ++ range_with_len (a + m) n
range_split zero n a =
    let e : zero + n ≡ n = omega arith in
    let d : a + zero ≡ a = omega arith in
    rw (e, d) refl
range_split (suc m) n a =
    let e : suc m + n ≡ suc (m + n) = omega arith in
    let d : a + suc m ≡ a + 1 + m = omega arith in
    rw (e, d) (ap (λ (xs : List ℕ). a ∷ xs) (range_split m n (a + 1)))

filter_cons : (b : Bool) (x : ℕ) (zs xs ys : List ℕ) → zs ≡ xs ++ ys → cond b (x ∷ zs) zs ≡ cond b (x ∷ xs) xs ++ ys
filter_cons true x zs xs ys e = ap (λ (us : List ℕ). x ∷ us) e
filter_cons false x zs xs ys e = e

filter-append : (p : ℕ → Bool) (xs ys : List ℕ) → filter p (xs ++ ys) ≡ filter p xs ++ filter p ys
filter-append p [] ys = refl
filter-append p (x ∷ xs) ys = filter_cons (p x) x (filter p (xs ++ ys)) (filter p xs) (filter p ys) (filter-append p xs ys)

pub indices_split : (v : Bool) (bits : List Bool) (from mid to : ℕ) → from ≤ mid → mid ≤ to → indices_of v bits from to ≡ indices_of v bits from mid ++ indices_of v bits mid to
indices_split v bits from mid to p q =
    let e : to - from ≡ (mid - from) + (to - mid) = omega arith in
    let d : from + (mid - from) ≡ mid = omega arith in
    ap (λ n. filter (has_item v bits) (range_with_len from n)) e
    ∙ ap (filter (has_item v bits)) (range_split (mid - from) (to - mid) from ∙ ap (λ a. range_with_len from (mid - from) ++ range_with_len a (to - mid)) d)
    ∙ filter-append (has_item v bits) (range_with_len from (mid - from)) (range_with_len mid (to - mid))

pub no_index : (v : Bool) (bits : List Bool) (from to : ℕ) → to ≤ length bits → ((i : ℕ) → from ≤ i → i < to → get_or bits i false ≡ not v) → indices_of v bits from to ≡ []
no_index v bits from to within h =
    none_pass (has_item v bits) (to - from) from (λ i low high. has_not v bits i (omega arith) (h i low (omega arith)))

pub empty_run : (v : Bool) (bits : List Bool) (from to : ℕ) → to ≤ from → indices_of v bits from to ≡ []
empty_run v bits from to h =
    let e : to - from ≡ 0 = omega arith in
    ap (λ n. filter (has_item v bits) (range_with_len from n)) e

one_index : (v : Bool) (bits : List Bool) (p : ℕ) → p < length bits → get_or bits p false ≡ v → indices_of v bits p (p + 1) ≡ p ∷ []
one_index v bits p h e =
    let n : p + 1 - p ≡ 1 = omega arith in
    let here = has_is v bits p h e in
    ap (λ k. filter (has_item v bits) (range_with_len p k)) n ∙ ap (λ b. cond b (p ∷ []) []) here

pub first_is : (v : Bool) (bits : List Bool) (from to p : ℕ) → to ≤ length bits → from ≤ p → p < to → get_or bits p false ≡ v → ((i : ℕ) → from ≤ i → i < p → get_or bits i false ≡ not v) → indices_of v bits from to ≡ p ∷ indices_of v bits (p + 1) to
first_is v bits from to p within low high here before =
    indices_split v bits from p to low (omega arith)
    ∙ ap₂ (λ (xs : List ℕ) (ys : List ℕ). xs ++ ys) (no_index v bits from p (omega arith) before) (indices_split v bits p (p + 1) to (omega arith) (omega arith) ∙ ap (λ (xs : List ℕ). xs ++ indices_of v bits (p + 1) to) (one_index v bits p (omega arith) here))

pub last_is : (v : Bool) (bits : List Bool) (from to p : ℕ) → to ≤ length bits → from ≤ p → p < to → get_or bits p false ≡ v → ((i : ℕ) → p < i → i < to → get_or bits i false ≡ not v) → indices_of v bits from to ≡ indices_of v bits from p ++ p ∷ []
last_is v bits from to p within low high here after =
    indices_split v bits from p to low (omega arith)
    ∙ ap (λ (ys : List ℕ). indices_of v bits from p ++ ys) (indices_split v bits p (p + 1) to (omega arith) (omega arith)
    ∙ ap₂ (λ (xs : List ℕ) (ys : List ℕ). xs ++ ys) (one_index v bits p (omega arith) here) (no_index v bits (p + 1) to within (λ i a b. after i (omega arith) b)))

-- ---- in one block

matched : (v : Bool) (xs : List Bool) (i : ℕ) (u : Bool) → i < length xs → get_or (cond v xs (map not xs)) i false ≡ u → get_or xs i false ≡ cond u v (not v)
matched true xs i true h e = e
matched true xs i false h e = e
matched false xs i true h e = not_not (get_or xs i false) ∙ ap not (sym (get_or-map not xs i false false h) ∙ e)
  where
    not_not : (b : Bool) → b ≡ not (not b)
    not_not true = refl
    not_not false = refl
matched false xs i false h e = not_not (get_or xs i false) ∙ ap not (sym (get_or-map not xs i false false h) ∙ e)
  where
    not_not : (b : Bool) → b ≡ not (not b)
    not_not true = refl
    not_not false = refl

length_matching : (v : Bool) (xs : List Bool) → length (cond v xs (map not xs)) ≡ length xs
length_matching true xs = refl
length_matching false xs = length-map xs not

pub above_before : (w index clear : ℕ) (v : Bool) (xs word shifted : List Bool) → length xs ≡ w → index < w → word ≡ cond v xs (map not xs) → shifted ≡ drop index word ++ replicate index false → ((i : ℕ) → i < clear → get_or shifted i false ≡ false) → (i : ℕ) → index ≤ i → i < index + min clear (w - index) → get_or xs i false ≡ not v
above_before w index clear v xs word shifted l h is moved before i low high =
    let n : length word ≡ w = ap length is ∙ length_matching v xs ∙ l in
    let e : index + (i - index) ≡ i = omega arith in
    let inside : i - index < length (drop index word) = omega (arith, length-drop index word) in
    let seen : get_or word i false ≡ false =
    ap (λ k. get_or word k false) (sym e) ∙ sym (get_or-drop index word (i - index) false) ∙ sym (get_or_append_left (drop index word) (replicate index false) false (i - index) inside) ∙ ap (λ ys. get_or ys (i - index) false) (sym moved) ∙ before (i - index) (omega arith) in
    matched v xs i false (omega arith) (ap (λ ys. get_or ys i false) (sym is) ∙ seen)

pub above_found : (w index clear : ℕ) (v : Bool) (xs word shifted : List Bool) → length xs ≡ w → index < w → word ≡ cond v xs (map not xs) → shifted ≡ drop index word ++ replicate index false → (clear < w → get_or shifted clear false ≡ true) → index + min clear (w - index) < w → get_or xs (index + min clear (w - index)) false ≡ v
above_found w index clear v xs word shifted l h is moved found some =
    let n : length word ≡ w = ap length is ∙ length_matching v xs ∙ l in
    let m : min clear (w - index) ≡ clear = omega arith in
    let inside : clear < length (drop index word) = omega (arith, length-drop index word) in
    let seen : get_or word (index + clear) false ≡ true =
    sym (get_or-drop index word clear false) ∙ sym (get_or_append_left (drop index word) (replicate index false) false clear inside) ∙ ap (λ ys. get_or ys clear false) (sym moved) ∙ found (omega arith) in
    ap (λ k. get_or xs (index + k) false) m ∙ matched v xs (index + clear) true (omega arith) (ap (λ ys. get_or ys (index + clear) false) (sym is) ∙ seen)

moved_up : (w index : ℕ) (word shifted : List Bool) → length word ≡ w → 0 < index → index ≤ w → shifted ≡ replicate (w - index) false ++ take (w - (w - index)) word → (i : ℕ) → i < index → get_or shifted (i + (w - index)) false ≡ get_or word i false
moved_up w index word shifted n pos h moved i p =
    let low : w - index ≤ i + (w - index) = omega arith in
    let e : i + (w - index) - (w - index) ≡ i = omega arith in
    let inside : i < w - (w - index) = omega arith in
    ap (λ ys. get_or ys (i + (w - index)) false) moved
    ∙ get_or-append_right (replicate (w - index) false) (take (w - (w - index)) word) (w - index) (i + (w - index)) false (length-replicate (w - index) false) low
    ∙ ap (λ k. get_or (take (w - (w - index)) word) k false) e
    ∙ get_or-take (w - (w - index)) word i false inside

pub below_after : (w index clear : ℕ) (v : Bool) (xs word shifted : List Bool) → length xs ≡ w → 0 < index → index ≤ w → word ≡ cond v xs (map not xs) → shifted ≡ replicate (w - index) false ++ take (w - (w - index)) word → ((i : ℕ) → w ≤ i + clear → get_or shifted i false ≡ false) → (i : ℕ) → index ≤ i + min clear index → i < index → get_or xs i false ≡ not v
below_after w index clear v xs word shifted l pos h is moved after i low high =
    let n : length word ≡ w = ap length is ∙ length_matching v xs ∙ l in
    let seen : get_or word i false ≡ false = sym (moved_up w index word shifted n pos h moved i high) ∙ after (i + (w - index)) (omega arith) in
    matched v xs i false (omega arith) (ap (λ ys. get_or ys i false) (sym is) ∙ seen)

pub below_found : (w index clear : ℕ) (v : Bool) (xs word shifted : List Bool) → length xs ≡ w → 0 < index → index ≤ w → word ≡ cond v xs (map not xs) → shifted ≡ replicate (w - index) false ++ take (w - (w - index)) word → ((i : ℕ) → i + clear + 1 ≡ w → get_or shifted i false ≡ true) → (i : ℕ) → i + min clear index + 1 ≡ index → get_or xs i false ≡ v
below_found w index clear v xs word shifted l pos h is moved found i e =
    let n : length word ≡ w = ap length is ∙ length_matching v xs ∙ l in
    let high : i < index = omega arith in
    let seen : get_or word i false ≡ true = sym (moved_up w index word shifted n pos h moved i high) ∙ found (i + (w - index)) (omega arith) in
    matched v xs i true (omega arith) (ap (λ ys. get_or ys i false) (sym is) ∙ seen)

-- ---- from block to block

module _ {T : Type 0} (bits : T → List Bool) (w : ℕ) (each : (x : T) → length (bits x) ≡ w) where
  in_block : (xs : List T) (at b i : ℕ) (x : T) → 0 < w → b ≡ w → at < length (flat_map bits xs) → x ≡ get_or xs (at / b) x → at ≤ i → i < at + (w - at % b) → get_or (flat_map bits xs) i false ≡ get_or (bits x) (at % b + (i - at)) false
  in_block xs at b i x pos e h is low high =
      let q : at / b < length xs = pack.block_below bits w each xs at b pos e h in
      let m : at / w * w + at % w ≡ at = div-add-mod' at w in
      let n = mod_below at w pos in
      let s : at % b ≡ at % w = ap (λ k. at % k) e in
      let t : at / b ≡ at / w = ap (λ k. at / k) e in
      let j : at / w * w + (at % w + (i - at)) ≡ i = omega arith in
      let here : x ≡ get_or xs (at / w) x = is ∙ ap (λ k. get_or xs k x) t in
      ap (λ k. get_or (flat_map bits xs) k false) (sym j)
      ∙ spell.get_or-spelled bits w each xs (at / w) (at % w + (i - at)) x (omega arith) (omega arith)
      ∙ ap₂ (λ (y : T) (k : ℕ). get_or (bits y) (k + (i - at)) false) (sym here) (sym s)

  pub run_above : (xs : List T) (from at b others : ℕ) (x : T) (v : Bool) → 0 < w → b ≡ w → at < length (flat_map bits xs) → x ≡ get_or xs (at / b) x → ((i : ℕ) → from ≤ i → i < at → get_or (flat_map bits xs) i false ≡ v) → at % b + others ≤ w → ((i : ℕ) → at % b ≤ i → i < at % b + others → get_or (bits x) i false ≡ v) → (i : ℕ) → from ≤ i → i < at + others → get_or (flat_map bits xs) i false ≡ v
  run_above xs from at b others x v pos e h is before within block i low high =
      elim (cases_lt i at) [
        | inl p ↦ before i low p
        | inr p ↦ in_block xs at b i x pos e h is p (omega arith) ∙ block (at % b + (i - at)) (omega arith) (omega arith)
      ]

  pub found_above : (xs : List T) (at b others : ℕ) (x : T) (v : Bool) → 0 < w → b ≡ w → at < length (flat_map bits xs) → x ≡ get_or xs (at / b) x → at % b + others < w → get_or (bits x) (at % b + others) false ≡ v → get_or (flat_map bits xs) (at + others) false ≡ v
  found_above xs at b others x v pos e h is within block =
      let k : at % b + (at + others - at) ≡ at % b + others = omega arith in
      in_block xs at b (at + others) x pos e h is (omega arith) (omega arith) ∙ ap (λ n. get_or (bits x) n false) k ∙ block

  -- below the index at, whose last bit is in the block x
  in_block_below : (xs : List T) (last b i : ℕ) (x : T) → 0 < w → b ≡ w → last < length (flat_map bits xs) → x ≡ get_or xs (last / b) x → i ≤ last → last ≤ i + last % b → get_or (flat_map bits xs) i false ≡ get_or (bits x) (last % b - (last - i)) false
  in_block_below xs last b i x pos e h is low high =
      let q : last / b < length xs = pack.block_below bits w each xs last b pos e h in
      let m : last / w * w + last % w ≡ last = div-add-mod' last w in
      let n = mod_below last w pos in
      let s : last % b ≡ last % w = ap (λ k. last % k) e in
      let t : last / b ≡ last / w = ap (λ k. last / k) e in
      let j : last / w * w + (last % w - (last - i)) ≡ i = omega arith in
      let here : x ≡ get_or xs (last / w) x = is ∙ ap (λ k. get_or xs k x) t in
      ap (λ k. get_or (flat_map bits xs) k false) (sym j)
      ∙ spell.get_or-spelled bits w each xs (last / w) (last % w - (last - i)) x (omega arith) (omega arith)
      ∙ ap₂ (λ (y : T) (k : ℕ). get_or (bits y) (k - (last - i)) false) (sym here) (sym s)

  pub run_below : (xs : List T) (to at b others : ℕ) (x : T) (v : Bool) → 0 < w → b ≡ w → 0 < at → at ≤ length (flat_map bits xs) → x ≡ get_or xs ((at - 1) / b) x → ((i : ℕ) → at ≤ i → i < to → get_or (flat_map bits xs) i false ≡ v) → others ≤ (at - 1) % b + 1 → ((i : ℕ) → (at - 1) % b + 1 ≤ i + others → i < (at - 1) % b + 1 → get_or (bits x) i false ≡ v) → (i : ℕ) → at ≤ i + others → i < to → get_or (flat_map bits xs) i false ≡ v
  run_below xs to at b others x v pos e some h is after within block i low high =
      elim (cases_lt i at) [
        | inr p ↦ after i p high
        | inl p ↦ in_block_below xs (at - 1) b i x pos e (omega arith) is (omega arith) (omega arith) ∙ block ((at - 1) % b - (at - 1 - i)) (omega arith) (omega arith)
      ]

  pub found_below : (xs : List T) (at b others : ℕ) (x : T) (v : Bool) → 0 < w → b ≡ w → 0 < at → at ≤ length (flat_map bits xs) → x ≡ get_or xs ((at - 1) / b) x → others < (at - 1) % b + 1 → ((i : ℕ) → i + others + 1 ≡ (at - 1) % b + 1 → get_or (bits x) i false ≡ v) → get_or (flat_map bits xs) (at - others - 1) false ≡ v
  found_below xs at b others x v pos e some h is within block =
      let d : (at - 1) % b ≤ at - 1 = omega (arith, div-add-mod' (at - 1) b) in
      in_block_below xs (at - 1) b (at - others - 1) x pos e (omega arith) is (omega arith) (omega arith) ∙ block ((at - 1) % b - (at - 1 - (at - others - 1))) (omega arith)

-- ---- counts

count_true-append : (xs ys : List Bool) → count_true (xs ++ ys) ≡ count_true xs + count_true ys
count_true-append [] ys = omega arith
count_true-append (true ∷ xs) ys = ap suc (count_true-append xs ys) ∙ (omega arith)
count_true-append (false ∷ xs) ys = count_true-append xs ys

count_true_none : (n : ℕ) → count_true (replicate n false) ≡ 0
count_true_none zero = refl
count_true_none (suc n) = count_true_none n

count_cons : (b c : Bool) (x : ℕ) (ys : List Bool) (zs : List ℕ) → b ≡ c → count_true ys ≡ length zs → count_true (b ∷ ys) ≡ length (cond c (x ∷ zs) zs)
count_cons true true x ys zs e h = ap suc h
count_cons true false x ys zs e h = cc
count_cons false true x ys zs e h = cc
count_cons false false x ys zs e h = h

count_filter : (p : ℕ → Bool) (ys : List Bool) (a : ℕ) → ((j : ℕ) → j < length ys → get_or ys j false ≡ p (a + j)) → count_true ys ≡ length (filter p (range_with_len a (length ys)))
count_filter p [] a h = refl
count_filter p (y ∷ ys) a h =
    let z : a + 0 ≡ a = omega arith in
    count_cons y (p a) a ys (filter p (range_with_len (a + 1) (length ys))) (h 0 (omega arith) ∙ ap p z)
    (count_filter p ys (a + 1) (λ j q. let e : a + suc j ≡ a + 1 + j = omega arith in h (suc j) (omega arith) ∙ ap p e))

has_matching : (v : Bool) (xs all : List Bool) (i k : ℕ) → i < length xs → k < length all → get_or all k false ≡ get_or xs i false → get_or (cond v xs (map not xs)) i false ≡ has_item v all k
has_matching true xs all i k p q e = sym e
has_matching false xs all i k p q e = get_or-map not xs i false false p ∙ ap not (sym e ∙ get_or_default all k false true q)

pub length-indices : (v : Bool) (bits : List Bool) (from to : ℕ) → length (indices_of v bits from to) ≤ to - from
length-indices v bits from to = least (has_item v bits) (to - from) from
  where
    skip : (b : Bool) (x n : ℕ) (xs : List ℕ) → length xs ≤ n → length (cond b (x ∷ xs) xs) ≤ suc n
    skip true x n xs h = omega arith
    skip false x n xs h = omega arith

    least : (p : ℕ → Bool) (n a : ℕ) → length (filter p (range_with_len a n)) ≤ n
    least p zero a = omega arith
    least p (suc n) a = skip (p a) a n (filter p (range_with_len (a + 1) n)) (least p n (a + 1))

module _ {T : Type 0} (bits : T → List Bool) (w : ℕ) (each : (x : T) → length (bits x) ≡ w) where
  -- the bits of one block from at on that have the value
  pub counted : (xs : List T) (at b n : ℕ) (x : T) (v : Bool) (word low moved : List Bool) → 0 < w → b ≡ w → at + n ≤ length (flat_map bits xs) → 0 < n → at % b + n ≤ w → x ≡ get_or xs (at / b) x → word ≡ cond v (bits x) (map not (bits x)) → low ≡ take (at % b + n) word ++ replicate (w - (at % b + n)) false → moved ≡ drop (at % b) low ++ replicate (at % b) false → count_true moved ≡ length (indices_of v (flat_map bits xs) at (at + n))
  counted xs at b n x v word low moved pos e room some within is one two three =
      let r = at % b in
      let all = flat_map bits xs in
      let size : length word ≡ w = ap length one ∙ length_matching v (bits x) ∙ each x in
      let ys = take n (drop r word) in
      let l : length ys ≡ n = length-take n (drop r word) ∙ ap (min n) (length-drop r word) ∙ (omega arith) in
      let front : drop r (take (r + n) word ++ replicate (w - (r + n)) false) ≡ ys ++ replicate (w - (r + n)) false =
      drop-append-le r (take (r + n) word) (replicate (w - (r + n)) false) (omega (arith, length-take (r + n) word)) ∙ ap (λ (zs : List Bool). zs ++ replicate (w - (r + n)) false) (drop-take r n word) in
      let whole : moved ≡ (ys ++ replicate (w - (r + n)) false) ++ replicate r false = three ∙ ap (λ zs. drop r zs ++ replicate r false) two ∙ ap (λ (zs : List Bool). zs ++ replicate r false) front in
      let sum : count_true moved ≡ count_true ys =
      ap count_true whole ∙ count_true-append (ys ++ replicate (w - (r + n)) false) (replicate r false) ∙ ap₂ (λ i j. i + j) (count_true-append ys (replicate (w - (r + n)) false) ∙ ap (λ j. count_true ys + j) (count_true_none (w - (r + n)))) (count_true_none r) ∙ (omega arith) in
      let d : at + n - at ≡ length ys = omega (arith, l) in
      sum
      ∙ count_filter (has_item v all) ys at (λ j p.
      let q : j < n = omega (arith, l) in
      let k : r + (at + j - at) ≡ r + j = omega arith in
      get_or-take n (drop r word) j false q
      ∙ get_or-drop r word j false
      ∙ ap (λ zs. get_or zs (r + j) false) one
      ∙ has_matching v (bits x) all (r + j) (at + j) (omega (arith, each x)) (omega arith) (in_block bits w each xs at b (at + j) x pos e (omega arith) is (omega arith) (omega arith) ∙ ap (λ i. get_or (bits x) i false) k))
      ∙ ap (λ m. length (filter (has_item v all) (range_with_len at m))) (sym d)

-- ---- ranges

pub cut_start : (v : Bool) (bits : List Bool) (from to top : ℕ) → to ≤ top → indices_of v bits (min from top) to ≡ indices_of v bits from to
cut_start v bits from to top h =
    elim (cases_lt top from) [
      | inl p ↦ empty_run v bits (min from top) to (omega arith) ∙ sym (empty_run v bits from to (omega arith))
      | inr p ↦ let e : min from top ≡ from = omega arith in ap (λ a. indices_of v bits a to) e
    ]

same_filter : (p q : ℕ → Bool) (n a : ℕ) → ((i : ℕ) → a ≤ i → i < a + n → p i ≡ q i) → filter p (range_with_len a n) ≡ filter q (range_with_len a n)
same_filter p q zero a h = refl
same_filter p q (suc n) a h = ap₂ (λ b xs. cond b (a ∷ xs) xs) (h a (omega arith) (omega arith)) (same_filter p q n (a + 1) (λ i l u. h i (omega arith) (omega arith)))

has_kept : (v : Bool) (bits : List Bool) (n i : ℕ) → i < n → has_item v (take n bits) i ≡ has_item v bits i
has_kept true bits n i h = get_or-take n bits i false h
has_kept false bits n i h = ap not (get_or-take n bits i true h)

-- the unused bits give no index
pub indices_kept : (v : Bool) (bits : List Bool) (n from to : ℕ) → to ≤ n → indices_of v (take n bits) from to ≡ indices_of v bits from to
indices_kept v bits n from to h =
    same_filter (has_item v (take n bits)) (has_item v bits) (to - from) from (λ i l u. has_kept v bits n i (omega arith))
