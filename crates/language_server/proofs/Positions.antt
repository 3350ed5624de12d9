-- The places of offsets: lines, and columns in units of UTF-16 or in bytes.
use Rattle.std.proofs.Common.{◌≡◌, ℕ, zero, suc, ◌+◌, ◌*◌, ◌-◌, ◌^◌, ◌<◌, ◌≤◌, inl, inr, ◌⊎◌, ◌||◌, min, Bool, true, false, List, [], ◌∷◌, ◌++◌, length, take, drop, get_or, nat_lt, nat_le, if◌then◌else◌, refl, sym, ap, ap₂, ◌∙◌, subst, arith, length-append}
use Rattle.std.specs.Prelude.{slice_get, Option, None, Some, not, ◌&&◌, ◌==◌}
use Rattle.std.proofs.lemmas.Option.{slice_get-get_or}
use Rattle.std.specs.List.{slice_range}
use Rattle.std.specs.List.Sorted.{IsNonDecreasing, IsPartitionPoint}
use Rattle.std.specs.Str.{IsAscii, IsCharBoundary}
use Rattle.std.proofs.lemmas.Bool.{cases_lt}
use Rattle.std.proofs.lemmas.List.{take_all, take_more, get_or_append_left, get_or_push, length-take, length-drop}
use Rattle.std.proofs.lemmas.List.Sorted.{IsNonDecreasingBy-from_default}
use Rattle.std.proofs.lemmas.List.Sums.{sum_by-cons, sum_by-append, sum_by_push}
use Rattle.std.proofs.Math.Nat.{min-eq_left, min-eq_right}
use Rattle.language_server.specs.Lines.{ends_line, is_there, starts_upto}
use Rattle.language_server.specs.Positions.{units_of, units, begins_character, AreMarks, IsBehind, IsBetween, IsPlaceOf, start_of}
use Rattle.language_server.specs.declared.places.Encoding.{Encoding}
use Rattle.language_server.specs.declared.places.Encoding.TheVariants.{Utf16, Utf8}
use Rattle.language_server.specs.declared.places.Position.{Position}

few : (p q r : Bool) → (if p then 1 else (if q then 0 else (if r then 1 else 2))) ≤ 2
few true q r = omega arith
few false true r = omega arith
few false false true = omega arith
few false false false = omega arith

pub units_below : (xs : List ℕ) (n : ℕ) → units Utf16 (take n xs) ≤ 2 * length xs
units_below xs zero = let n = length xs in omega (arith, n)
units_below [] (suc n) = omega arith
units_below (x ∷ xs) (suc n) = let e = sum_by-cons (units_of Utf16) x (take n xs) in let a = few (nat_lt x 128) (nat_lt x 192) (nat_lt x 240) in let b = units_below xs n in omega (arith, e, a, b)

pub units_bytes : (xs : List ℕ) → units Utf8 xs ≡ length xs
units_bytes [] = refl
units_bytes (x ∷ xs) = let e = sum_by-cons (units_of Utf8) x xs in let b = units_bytes xs in omega (arith, e, b)

above : (a b : ℕ) → nat_le a b ≡ false → b < a
above a b e = grind arith

upto : (a b : ℕ) → nat_le a b ≡ true → a ≤ b
upto a b e = grind arith

one : (p : Bool) (n : ℕ) → p ≡ true → (if p then 1 else n) ≡ 1
one true n e = refl
one false n e = cc

below : (a b : ℕ) → a < b → nat_lt a b ≡ true
below a b lt = grind arith

pub units_ascii : (xs : List ℕ) → IsAscii xs → units Utf16 xs ≡ length xs
units_ascii [] h = refl
units_ascii (x ∷ xs) h =
    let e = sum_by-cons (units_of Utf16) x xs in
    let a : units_of Utf16 x ≡ 1 = one (nat_lt x 128) _ (below x 128 (h 0)) in
    let b = units_ascii xs (λ i. h (suc i)) in
    omega (arith, e, a, b)

split : (xs : List ℕ) (a n m : ℕ) → m ≡ a + n → take m xs ≡ take a xs ++ take n (drop a xs)
split xs zero n m e = ap (λ k. take k xs) (omega (arith, e))
split xs (suc a) n zero e = absurd (omega (arith, e))
split [] (suc a) zero (suc m) e = refl
split [] (suc a) (suc n) (suc m) e = refl
split (x ∷ xs) (suc a) n (suc m) e = ap (λ l. x ∷ l) (split xs a n m (omega (arith, e)))

pub units_split : (e : Encoding) (xs : List ℕ) (a b : ℕ) → a ≤ b → units e (take a xs) + units e (slice_range xs a b) ≡ units e (take b xs)
units_split e xs a b le = sym (sum_by-append (units_of e) (take a xs) (slice_range xs a b)) ∙ ap (units e) (sym (split xs a (b - a) b (omega (arith, le))))

pub units_next : (e : Encoding) (xs : List ℕ) (i : ℕ) → i < length xs → units e (take (i + 1) xs) ≡ units e (take i xs) + units_of e (get_or xs i 0)
units_next e xs i lt = ap (units e) (take_more xs i 0 lt) ∙ sum_by_push (units_of e) (take i xs) (get_or xs i 0)

-- to add a number to another, where both are those of a text, passes no bound
pub units_add : (xs : List ℕ) (n a b r : ℕ) → length xs < 2 ^ 63 → a + b ≡ units Utf16 (take n xs) → r ≡ min (a + b) (2 ^ 64 - 1) → r ≡ units Utf16 (take n xs)
units_add xs n a b r short e m = let most = units_below xs n in m ∙ (min-eq_left (omega (arith, most, short, e)) ∙ e)

pub take_some : (xs : List ℕ) (n m : ℕ) → m ≡ min n (length xs) → take m xs ≡ take n xs
take_some xs n m e = elim (cases_lt n (length xs)) [
  | inl lt ↦ ap (λ k. take k xs) (e ∙ min-eq_left (omega (arith, lt)))
  | inr ge ↦ ap (λ k. take k xs) (e ∙ min-eq_right ge) ∙ (take_all (length xs) xs (omega arith) ∙ sym (take_all n xs ge))
]

-- ---- where lines begin

start_first : (text : List ℕ) (n : ℕ) → (0 < length (starts_upto text n)) × (get_or (starts_upto text n) 0 0 ≡ 0)
start_first text zero = (omega arith, refl)
start_first text (suc n) = go (ends_line text n) (starts_upto text n) (suc n) (start_first text n)
  where
    go : (p : Bool) (xs : List ℕ) (m : ℕ) → (0 < length xs) × (get_or xs 0 0 ≡ 0) → (0 < length (if p then xs ++ m ∷ [] else xs)) × (get_or (if p then xs ++ m ∷ [] else xs) 0 0 ≡ 0)
    go true [] m h = absurd (let lt = h.0 in omega (arith, lt))
    go true (x ∷ xs) m h = (omega arith, h.1)
    go false xs m h = h

-- each line begins behind the one before it
abbrev Rises : List ℕ → ℕ → Type 0
Rises xs n = ((k : ℕ) → k < length xs → get_or xs k 0 ≤ n) × ((j k : ℕ) → j ≤ k → k < length xs → get_or xs j 0 ≤ get_or xs k 0)

starts_rise : (text : List ℕ) (n : ℕ) → Rises (starts_upto text n) n
starts_rise text zero = (λ k lt. only k lt, λ j k le lt. let a = only j (omega (arith, le, lt)) in omega (arith, a))
  where
    only : (k : ℕ) → k < 1 → get_or (0 ∷ []) k 0 ≤ 0
    only zero lt = omega arith
    only (suc k) lt = absurd (omega (arith, lt))
starts_rise text (suc n) = go (ends_line text n) (starts_upto text n) (starts_rise text n)
  where
    go : (p : Bool) (xs : List ℕ) → Rises xs n → Rises (if p then xs ++ suc n ∷ [] else xs) (suc n)
    go false xs h = (λ k lt. let a = h.0 k lt in omega (arith, a), h.1)
    go true xs h = (
      most,
      λ j k le lt. elim (cases_lt k (length xs)) [
        | inl l ↦ (let a = h.1 j k le l in let p = at j (omega (arith, le, l)) in let q = at k l in omega (arith, a, p, q))
        | inr ge ↦ (let a = most j (let e = length-append xs (suc n ∷ []) in omega (arith, le, lt)) in let q = end k ge lt in omega (arith, a, q))
      ],
    )
      where
        at : (k : ℕ) → k < length xs → get_or (xs ++ suc n ∷ []) k 0 ≡ get_or xs k 0
        at k lt = get_or_append_left xs (suc n ∷ []) 0 k lt

        end : (k : ℕ) → length xs ≤ k → k < length (xs ++ suc n ∷ []) → get_or (xs ++ suc n ∷ []) k 0 ≡ suc n
        end k ge lt = let e = length-append xs (suc n ∷ []) in get_or_push xs (suc n) 0 k (omega (arith, ge, lt, e))

        most : (k : ℕ) → k < length (xs ++ suc n ∷ []) → get_or (xs ++ suc n ∷ []) k 0 ≤ suc n
        most k lt = elim (cases_lt k (length xs)) [ inl l ↦ (let a = h.0 k l in let p = at k l in omega (arith, a, p)) | inr ge ↦ (let q = end k ge lt in omega (arith, q)) ]

pub starts_sorted : (text : List ℕ) (n : ℕ) → IsNonDecreasing (starts_upto text n)
starts_sorted text n = IsNonDecreasingBy-from_default (λ x. x) (starts_upto text n) 0 (starts_rise text n).1

-- the line of an offset is the last that begins there or before it
pub found : (text : List ℕ) (end i : ℕ) → i ≤ length (starts_upto text (length text)) → IsPartitionPoint (λ p. nat_le p end ≡ true) (λ p. nat_le p end ≡ false) (starts_upto text (length text)) i →
    (i - 1 < length (starts_upto text (length text))) × (start_of text (i - 1) ≤ end) × ((k : ℕ) → i - 1 < k → k < length (starts_upto text (length text)) → end < start_of text k)
found text end zero le point =
    let first = start_first text (length text) in
    let past = point.1 0 0 (omega arith) first.0 in
    absurd (let e = first.1 in let gt = above (start_of text 0) end past in omega (arith, e, gt))
found text end (suc i) le point = (
  omega (arith, le),
  subst (λ k. start_of text k ≤ end) (omega arith) (upto (start_of text i) end (point.0 i 0 (omega arith) (omega arith))),
  λ k lt short. above (start_of text k) end (point.1 k 0 (omega (arith, lt)) short),
)

-- ---- marks

pub marks_more : (text marks new : List ℕ) (n u : ℕ) → AreMarks text marks → length marks ≡ n → new ≡ marks ++ u ∷ [] → u ≡ units Utf16 (take (n * 1024) text) → AreMarks text new
marks_more text marks new n u are count e is k lt = elim (cases_lt k (length marks)) [
  | inl l ↦ ap (λ m. get_or m k 0) e ∙ (get_or_append_left marks (u ∷ []) 0 k l ∙ are k l)
  | inr ge ↦
      (let long = ap length e in
      let size = length-append marks (u ∷ []) in
      let last : k ≡ length marks = omega (arith, ge, lt, long, size) in
      ap (λ m. get_or m k 0) e ∙ (get_or_push marks u 0 k (sym last) ∙ (is ∙ ap (λ m. units Utf16 (take (m * 1024) text)) (sym (last ∙ count)))))
]

pub marks_at : (text marks : List ℕ) (q n : ℕ) → AreMarks text marks → n ≡ min q (length marks - 1) → get_or marks n 0 ≡ units Utf16 (take (n * 1024) text)
marks_at text [] q n are e = let z : n ≡ 0 = omega (arith, e) in subst (λ k. get_or [] k 0 ≡ units Utf16 (take (k * 1024) text)) (sym z) refl
marks_at text (m ∷ marks) q n are e = are n (omega (arith, e))

pub part_short : (xs : List ℕ) (a b : ℕ) → length (slice_range xs a b) ≤ length xs
part_short xs a b = let n = length-take (b - a) (drop a xs) in let m = length-drop a xs in omega (arith, n, m)

-- ---- places

pub placed : (e : Encoding) (text starts : List ℕ) (end i line read start column : ℕ) → starts ≡ starts_upto text (length text) → i ≤ length starts → IsPartitionPoint (λ p. nat_le p end ≡ true) (λ p. nat_le p end ≡ false) starts i → line ≡ i - 1 → read ≡ get_or starts line 0 → start ≡ min read end →
    units e (take start text) + column ≡ units e (take end text) → IsPlaceOf e text end (record { line = line; character = column })
placed e text starts end i line read start column same le point l r s sum =
    let f = found text end i (subst (λ xs. i ≤ length xs) same le) (subst (λ xs. IsPartitionPoint (λ p. nat_le p end ≡ true) (λ p. nat_le p end ≡ false) xs i) same point) in
    let begins : start_of text line ≤ end = subst (λ k. start_of text k ≤ end) (sym l) f.1 in
    let here : start ≡ start_of text line = s ∙ (ap (λ k. min k end) (r ∙ ap (λ xs. get_or xs line 0) same) ∙ min-eq_left begins) in
    record {
      within = subst (λ k. k < length (starts_upto text (length text))) (sym l) f.0;
      begins = begins;
      last = λ k lt short. f.2 k (omega (arith, lt, l)) short;
      column = subst (λ k. units e (take k text) + column ≡ units e (take end text)) here sum;
    }

-- in UTF-8 each byte is a unit
pub bytes_between : (text : List ℕ) (start end : ℕ) → start ≤ end → end ≤ length text → units Utf8 (take start text) + (end - start) ≡ units Utf8 (take end text)
bytes_between text start end le within =
    let a = units_bytes (take start text) in
    let b = units_bytes (take end text) in
    let n = length-take start text in
    let m = length-take end text in
    omega (arith, a, b, n, m, le, within)

-- ---- offsets of places

full : (e : Encoding) (b : ℕ) → begins_character b ≡ true → 1 ≤ units_of e b
full Utf8 b h = omega arith
full Utf16 b h = one_at_least (nat_lt b 128) (nat_lt b 192) (nat_lt b 240) (nat_le 192 b) (λ q s. let lt = under b 192 q in let ge = upto 192 b s in omega (arith, lt, ge)) h
  where
    under : (a c : ℕ) → nat_lt a c ≡ true → a < c
    under a c e = grind arith

    one_at_least : (p q r s : Bool) → (q ≡ true → s ≡ true → ⊥) → (p || s) ≡ true → 1 ≤ (if p then 1 else (if q then 0 else (if r then 1 else 2)))
    one_at_least true q r s apart h = omega arith
    one_at_least false true r s apart h = absurd (apart refl h)
    one_at_least false false true s apart h = omega arith
    one_at_least false false false s apart h = omega arith

module _ (e : Encoding) (text : List ℕ) (start count a index left : ℕ) (is : IsBehind e text start count a) (room : index < length text) (le : index ≤ a) (sum : left + units e (take index text) ≡ units e (take a text)) where
  abbrev pub byte : ℕ
  byte = get_or text index 0

  here : slice_get text index ≡ Some byte
  here = slice_get-get_or text index 0 room

  -- before the offset at least what the byte needs is left
  enough : index < a → units_of e byte ≤ left
  enough lt = let n = units_next e text index room in let s = units_split e text (index + 1) a (omega (arith, lt)) in omega (arith, n, s, sum)

  -- at the offset nothing is left, and a character begins
  at_last : index ≡ a → (left ≡ 0) × (begins_character byte ≡ true)
  at_last q = (let s = ap (λ k. units e (take k text)) q in omega (arith, s, sum), is.character byte (ap (slice_get text) (sym q) ∙ here))

  pub goes_on : (needed : ℕ) → needed ≡ units_of e byte → needed ≤ left → (left ≡ 0 → begins_character byte ≡ false) → (index + 1 ≤ a) × (left - needed + units e (take (index + 1) text) ≡ units e (take a text))
  goes_on needed n few within = elim (cases_lt index a) [
    | inl lt ↦ (omega (arith, lt), let m = units_next e text index room in omega (arith, m, n, few, sum))
    | inr ge ↦ absurd (let l = at_last (omega (arith, le, ge)) in differ (sym l.1 ∙ within l.0))
  ]
    where
      differ : true ≡ false → ⊥
      differ q = cc

  pub ends_here : (needed begin : ℕ) → needed ≡ units_of e byte → start ≤ index → (byte ≡ 10) ⊎ (byte ≡ 13) ⊎ (left < needed) ⊎ ((begins_character byte ≡ true) × (left ≡ 0)) → (if begins_character byte then index else begin) ≡ a
  ends_here needed begin n from why = elim (cases_lt index a) [
    | inl lt ↦ absurd (before lt why)
    | inr ge ↦ (let q : index ≡ a = omega (arith, le, ge) in ap (λ b. if b then index else begin) (at_last q).1 ∙ q)
  ]
    where
      before : index < a → (byte ≡ 10) ⊎ (byte ≡ 13) ⊎ (left < needed) ⊎ ((begins_character byte ≡ true) × (left ≡ 0)) → ⊥
      before lt (inl q) = (is.line index from lt).0 (here ∙ ap Some q)
      before lt (inr (inl q)) = (is.line index from lt).1 (here ∙ ap Some q)
      before lt (inr (inr (inl few))) = let m = enough lt in omega (arith, m, n, few)
      before lt (inr (inr (inr q))) = let m = enough lt in let f = full e byte q.0 in let z = q.1 in omega (arith, m, f, z)

-- ---- the ends of lines

one_more : (p : Bool) (xs : List ℕ) (n k : ℕ) → k < suc n → (k < n → (j : ℕ) × (j < length xs) × (get_or xs j 0 ≡ k + 1)) → (k ≡ n → p ≡ true) → (j : ℕ) × (j < length (if p then xs ++ suc n ∷ [] else xs)) × (get_or (if p then xs ++ suc n ∷ [] else xs) j 0 ≡ k + 1)
one_more true xs n k lt before last =
    let s = length-append xs (suc n ∷ []) in
    elim (cases_lt k n) [
      | inl l ↦ (let i = before l in let short = i.1 in (i.0, omega (arith, short, s), get_or_append_left xs (suc n ∷ []) 0 i.0 i.1 ∙ i.2))
      | inr ge ↦ (length xs, omega (arith, s), get_or_push xs (suc n) 0 (length xs) refl ∙ omega (arith, lt, ge))
    ]
one_more false xs n k lt before last = elim (cases_lt k n) [ inl l ↦ before l | inr ge ↦ absurd (unequal (last (omega (arith, lt, ge)))) ]
  where
    unequal : false ≡ true → ⊥
    unequal q = cc

ended : (text : List ℕ) (n k : ℕ) → k < n → ends_line text k ≡ true → (j : ℕ) × (j < length (starts_upto text n)) × (get_or (starts_upto text n) j 0 ≡ k + 1)
ended text zero k lt h = absurd (omega (arith, lt))
ended text (suc n) k lt h = one_more (ends_line text n) (starts_upto text n) n k lt (λ l. ended text n k l h) (λ q. ap (ends_line text) (sym q) ∙ h)

lf_ends : (text : List ℕ) (k : ℕ) → slice_get text k ≡ Some 10 → ends_line text k ≡ true
lf_ends text k h = ap (λ o. is_there 10 o || (is_there 13 (slice_get text k) && not (is_there 10 (slice_get text (k + 1))))) h

cr_ends : (text : List ℕ) (k : ℕ) → slice_get text k ≡ Some 13 → is_there 10 (slice_get text (k + 1)) ≡ false → ends_line text k ≡ true
cr_ends text k h e = ap₂ (λ o p. is_there 10 o || (is_there 13 o && not p)) h e

there : (o : Option ℕ) → is_there 10 o ≡ true → o ≡ Some 10
there None h = cc
there (Some b) h = ap Some (same b h)
  where
    same : (b : ℕ) → (10 == b) ≡ true → b ≡ 10
    same b h = grind arith

module _ (e : Encoding) (text : List ℕ) (a : ℕ) (p : Position) (within : a ≤ length text) (is : IsPlaceOf e text a p) (between : IsBetween text a) where
  no_end : (k : ℕ) → start_of text p.line ≤ k → k < a → ends_line text k ≡ true → ⊥
  no_end k ge lt h =
      let i = ended text (length text) k (omega (arith, lt, within)) h in
      let at = i.2 in
      elim (cases_lt p.line i.0) [
        | inl l ↦ (let past = is.last i.0 l i.1 in omega (arith, past, at, lt))
        | inr le ↦ (let up = (starts_rise text (length text)).1 i.0 p.line le is.within in omega (arith, up, at, ge))
      ]

  pub is_behind : IsBehind e text (start_of text p.line) p.character a
  is_behind = record {
    within = within;
    order = is.begins;
    column = is.column;
    character = between.character;
    line = λ k ge lt. (λ h. no_end k ge lt (lf_ends text k h), λ h. cr k ge lt h (is_there 10 (slice_get text (k + 1))) refl);
  }
    where
      cr : (k : ℕ) → start_of text p.line ≤ k → k < a → slice_get text k ≡ Some 13 → (b : Bool) → is_there 10 (slice_get text (k + 1)) ≡ b → ⊥
      cr k ge lt h false q = no_end k ge lt (cr_ends text k h q)
      cr k ge lt h true q = elim (cases_lt (k + 1) a) [
        | inl l ↦ no_end (k + 1) (omega (arith, ge)) l (lf_ends text (k + 1) (there (slice_get text (k + 1)) q))
        | inr le ↦ (let n : k + 1 ≡ a = omega (arith, lt, le) in between.line_end k n h (ap (slice_get text) (sym n) ∙ there (slice_get text (k + 1)) q))
      ]

-- ---- boundaries

other : (p q : Bool) → (p || q) ≡ true → (p ≡ true → ⊥) → q ≡ true
other true q e never = absurd (never refl)
other false q e never = e

pub is_boundary : (text : List ℕ) (a : ℕ) → a ≤ length text → IsBetween text a → IsCharBoundary text a
is_boundary text a le is = (le, λ lt high. upto 192 (get_or text a 0) (other (nat_lt (get_or text a 0) 128) (nat_le 192 (get_or text a 0)) (is.character (get_or text a 0) (slice_get-get_or text a 0 lt)) (λ low. let n = less (get_or text a 0) 128 low in omega (arith, n, high))))
  where
    less : (x c : ℕ) → nat_lt x c ≡ true → x < c
    less x c e = grind arith
