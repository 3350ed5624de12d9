-- What a word's operations do to its digits.
use Rattle.std.proofs.Common.{◌≡◌, ℕ, suc, zero, ◌+◌, ◌-◌, ◌*◌, ◌/◌, ◌%◌, ◌^◌, ◌<◌, ◌≤◌, min, max, Bool, true, false, not, ◌&&◌, ◌||◌, eqb, List, [], ◌∷◌, ◌++◌, length, get_or, set, take, drop, replicate, map, refl, sym, ap, ap₂, ◌∙◌, subst, arith, inl, inr}
use Rattle.std.specs.Int.{bit_at}
use Rattle.std.proofs.Math.Nat.{pow-suc}
use Rattle.std.proofs.lemmas.Nat.{shr-shr, shr_split}
use Rattle.std.proofs.lemmas.Bool.{eq-eqb, ne_eqb}
use lib.Bits.{bit_and, bit_or, bit_xor, and_step, or_step, xor_step, shifted_half, shifted_even}
use Prim.Native.Nat.{differ}
use Rattle.std.proofs.lemmas.Nat.{leading_top}
use Rattle.std.proofs.lemmas.Nat.Bits.{bit_at_above, bit_at-suc, bit_at_cat_low, bit_at-lt, same_from_bits_below}
use Rattle.std.proofs.Math.Nat.{div-eq_of_lt, div-eq_of_lt-le}
use Rattle.std.proofs.lemmas.List.{length-drop, get_or_append_left, get_or-drop, take-replicate, take_at, drop_at, get_or_past, ext_get_or}
use Rattle.std.proofs.lemmas.Bool.{cases_lt}
use Rattle.std.specs.Int.{Width, w8, w16, w32, w64, w128}
use mir.Val.{bits}
use Rattle.num_traits.specs.Laws.{bit_len}
use lib.Count.{ones, ones_in, ones_step, count_trailing_zeros, count_leading_zeros, leading_of_zero, under}
use mathlib.Core.Bool.{beq}
use Rattle.vob.specs.Digits.{digits}
use Rattle.vob.specs.Bits.{bitwise, differs, count_true}

pub length-digits : (k n : ℕ) → length (digits k n) ≡ k
unfolding digits
length-digits zero n = refl
length-digits (suc k) n = ap suc (length-digits k (n / 2))

-- ---- pointwise

digits_op : (op : Bool → Bool → Bool) (f g : ℕ → ℕ → ℕ) → ((a b : ℕ) → f a b ≡ f (a / 2) (b / 2) * 2 + g (a % 2) (b % 2)) → ((x y : ℕ) → x < 2 → y < 2 → (g x y < 2) × (eqb (g x y) 1 ≡ op (eqb x 1) (eqb y 1))) → (k a b : ℕ) → digits k (f a b) ≡ bitwise op (digits k a) (digits k b)
unfolding digits
digits_op op f g step head zero a b = refl
digits_op op f g step head (suc k) a b =
    let s = step a b in
    let h = head (a % 2) (b % 2) (omega arith) (omega arith) in
    let low : f a b % 2 ≡ g (a % 2) (b % 2) = omega (arith, s, h.0) in
    let rest : f a b / 2 ≡ f (a / 2) (b / 2) = omega (arith, s, h.0) in
    rw (low, rest, h.1, digits_op op f g step head k (a / 2) (b / 2)) refl

min_head : (x y : ℕ) → x < 2 → y < 2 → (min x y < 2) × (eqb (min x y) 1 ≡ (eqb x 1 && eqb y 1))
min_head zero zero p q = (omega arith, refl)
min_head zero (suc zero) p q = (omega arith, refl)
min_head (suc zero) zero p q = (omega arith, refl)
min_head (suc zero) (suc zero) p q = (omega arith, refl)
min_head x (suc (suc y)) p q = absurd (omega arith)
min_head (suc (suc x)) y p q = absurd (omega arith)

max_head : (x y : ℕ) → x < 2 → y < 2 → (max x y < 2) × (eqb (max x y) 1 ≡ (eqb x 1 || eqb y 1))
max_head zero zero p q = (omega arith, refl)
max_head zero (suc zero) p q = (omega arith, refl)
max_head (suc zero) zero p q = (omega arith, refl)
max_head (suc zero) (suc zero) p q = (omega arith, refl)
max_head x (suc (suc y)) p q = absurd (omega arith)
max_head (suc (suc x)) y p q = absurd (omega arith)

differ_head : (x y : ℕ) → x < 2 → y < 2 → (differ x y < 2) × (eqb (differ x y) 1 ≡ differs (eqb x 1) (eqb y 1))
differ_head zero zero p q = (omega arith, refl)
differ_head zero (suc zero) p q = (omega arith, refl)
differ_head (suc zero) zero p q = (omega arith, refl)
differ_head (suc zero) (suc zero) p q = (omega arith, refl)
differ_head x (suc (suc y)) p q = absurd (omega arith)
differ_head (suc (suc x)) y p q = absurd (omega arith)

pub digits-and : (k a b : ℕ) → digits k (bit_and a b) ≡ bitwise (λ x y. x && y) (digits k a) (digits k b)
digits-and = digits_op (λ x y. x && y) bit_and min and_step min_head

pub digits-or : (k a b : ℕ) → digits k (bit_or a b) ≡ bitwise (λ x y. x || y) (digits k a) (digits k b)
digits-or = digits_op (λ x y. x || y) bit_or max or_step max_head

pub digits-xor : (k a b : ℕ) → digits k (bit_xor a b) ≡ bitwise differs (digits k a) (digits k b)
digits-xor = digits_op differs bit_xor differ xor_step differ_head

not_head : (x y : ℕ) → x < 2 → y + x ≡ 1 → eqb y 1 ≡ not (eqb x 1)
not_head zero y p e = eq-eqb y 1 (omega arith)
not_head (suc zero) y p e = ne_eqb y 1 (λ h. omega arith)
not_head (suc (suc x)) y p e = absurd (omega arith)

not_low : (p n : ℕ) → n < p * 2 → ((p * 2 - 1 - n) % 2 + n % 2 ≡ 1) × ((p * 2 - 1 - n) / 2 ≡ p - 1 - n / 2) × (n / 2 < p)
not_low p n h = (omega arith, omega arith, omega arith)

pub digits-not : (k n : ℕ) → n < 2 ^ k → digits k (2 ^ k - 1 - n) ≡ map not (digits k n)
unfolding digits
digits-not zero n h = refl
digits-not (suc k) n h =
    let p = 2 ^ k in
    let e : 2 ^ suc k ≡ p * 2 = pow-suc 2 k in
    let within : n < p * 2 = rw e at h in
    let l = not_low p n within in
    rw e (rw (not_head (n % 2) ((p * 2 - 1 - n) % 2) (omega arith) l.0, l.1, digits-not k (n / 2) l.2) refl)

-- ---- parts

pub digits-zero : (k : ℕ) → digits k 0 ≡ replicate k false
unfolding digits
digits-zero zero = refl
digits-zero (suc k) = ap (λ (xs : List Bool). false ∷ xs) (digits-zero k)

pub digits-split : (j r n : ℕ) → digits (j + r) n ≡ digits j n ++ digits r (n / 2 ^ j)
unfolding digits
digits-split zero r n =
    let a : zero + r ≡ r = omega arith in
    let b : n / 1 ≡ n = omega arith in
    rw (a, b) refl
digits-split (suc j) r n =
    let a : suc j + r ≡ suc (j + r) = omega arith in
    let c : suc j ≡ 1 + j = omega arith in
    let b : n / 2 ^ suc j ≡ n / 2 / 2 ^ j = rw c (sym (shr-shr n 1 j)) in
    rw (a, b) (ap (λ (xs : List Bool). (eqb (n % 2) 1) ∷ xs) (digits-split j r (n / 2)))

digits-take : (j r n : ℕ) → take j (digits (j + r) n) ≡ digits j n
digits-take j r n = rw digits-split (take_at (digits j n) (digits r (n / 2 ^ j)) j (length-digits j n))

digits-drop : (j r n : ℕ) → drop j (digits (j + r) n) ≡ digits r (n / 2 ^ j)
digits-drop j r n = rw digits-split (drop_at (digits j n) (digits r (n / 2 ^ j)) j (length-digits j n))

-- a digit
pub get_or-digits : (k n i : ℕ) → i < k → get_or (digits k n) i false ≡ eqb (bit_at n i) 1
unfolding digits
get_or-digits zero n i h = absurd (omega arith)
get_or-digits (suc k) n zero h =
    let e : n / 1 ≡ n = omega arith in
    rw e refl
get_or-digits (suc k) n (suc i) h = rw bit_at-suc (get_or-digits k (n / 2) i (omega arith))

same_digits : (k m n : ℕ) → ((i : ℕ) → i < k → bit_at m i ≡ bit_at n i) → digits k m ≡ digits k n
same_digits k m n h =
    ext_get_or false (digits k m) (digits k n) (length-digits k m ∙ sym (length-digits k n))
    (λ i p. let within : i < k = rw length-digits at p in get_or-digits k m i within ∙ ap (λ d. eqb d 1) (h i within) ∙ sym (get_or-digits k n i within))

-- what lies above the k lowest digits does not count
pub digits-mod : (k n : ℕ) → digits k (n % 2 ^ k) ≡ digits k n
digits-mod k n =
    same_digits k (n % 2 ^ k) n (λ i h. sym (bit_at_cat_low (n / 2 ^ k) k (n % 2 ^ k) i h) ∙ ap (λ m. bit_at m i) (shr_split n k))

digits_raised : (j r n : ℕ) → digits (j + r) (n * 2 ^ j) ≡ replicate j false ++ digits r n
unfolding digits
digits_raised zero r n =
    let a : zero + r ≡ r = omega arith in
    let b : n * 1 ≡ n = omega arith in
    rw (a, b) refl
digits_raised (suc j) r n =
    let a : suc j + r ≡ suc (j + r) = omega arith in
    rw (a, shifted_half, shifted_even) (ap (λ (xs : List Bool). false ∷ xs) (digits_raised j r n))

digits_shl : (j r n : ℕ) → digits (j + r) ((n * 2 ^ j) % 2 ^ (j + r)) ≡ replicate j false ++ take r (digits (j + r) n)
digits_shl j r n =
    let e : j + r ≡ r + j = omega arith in
    digits-mod (j + r) (n * 2 ^ j) ∙ digits_raised j r n ∙ ap (λ (xs : List Bool). replicate j false ++ xs) (sym (digits-take r j n) ∙ ap (λ k. take r (digits k n)) (sym e))

-- a shift up
pub digits-shl : (k j n : ℕ) → j ≤ k → digits k ((n * 2 ^ j) % 2 ^ k) ≡ replicate j false ++ take (k - j) (digits k n)
digits-shl k j n h =
    let e : j + (k - j) ≡ k = omega arith in
    subst (λ m. digits m ((n * 2 ^ j) % 2 ^ m) ≡ replicate j false ++ take (k - j) (digits m n)) e (digits_shl j (k - j) n)

digits_shr : (j r n : ℕ) → n < 2 ^ (j + r) → digits (j + r) (n / 2 ^ j) ≡ drop j (digits (j + r) n) ++ replicate j false
digits_shr j r n within =
    let e : j + r ≡ r + j = omega arith in
    let none : n / 2 ^ j / 2 ^ r ≡ 0 = shr-shr n j r ∙ div-eq_of_lt within in
    ap (λ k. digits k (n / 2 ^ j)) e
    ∙ digits-split r j (n / 2 ^ j)
    ∙ ap (λ m. digits r (n / 2 ^ j) ++ digits j m) none
    ∙ ap (λ xs. digits r (n / 2 ^ j) ++ xs) (digits-zero j)
    ∙ ap (λ xs. xs ++ replicate j false) (sym (digits-drop j r n))

-- a shift down
pub digits-shr : (k j n : ℕ) → j ≤ k → n < 2 ^ k → digits k (n / 2 ^ j) ≡ drop j (digits k n) ++ replicate j false
digits-shr k j n h =
    let e : j + (k - j) ≡ k = omega arith in
    subst (λ m. n < 2 ^ m → digits m (n / 2 ^ j) ≡ drop j (digits m n) ++ replicate j false) e (digits_shr j (k - j) n)

-- the number one
pub digits-one : (k : ℕ) → 0 < k → digits k 1 ≡ true ∷ replicate (k - 1) false
unfolding digits
digits-one zero h = absurd (omega arith)
digits-one (suc k) h =
    let e : suc k - 1 ≡ k = omega arith in
    rw e (ap (λ (xs : List Bool). true ∷ xs) (digits-zero k))

-- ---- counts

count_head : (d : ℕ) (xs : List Bool) → d < 2 → count_true (eqb d 1 ∷ xs) ≡ d + count_true xs
count_head zero xs h = omega arith
count_head (suc zero) xs h = omega arith
count_head (suc (suc d)) xs h = absurd (omega arith)

ones-nil : ones 0 ≡ 0
unfolding ones ones_in
ones-nil = refl

pub count_true-digits : (k n : ℕ) → n < 2 ^ k → count_true (digits k n) ≡ ones n
unfolding digits
count_true-digits zero n h =
    let e : n ≡ 0 = omega arith in
    rw e (sym ones-nil)
count_true-digits (suc k) n h =
    let d : 2 ^ suc k ≡ 2 ^ k * 2 = pow-suc 2 k in
    let within : n < 2 ^ k * 2 = rw d at h in
    let half : n / 2 < 2 ^ k = omega arith in
    count_head (n % 2) (digits k (n / 2)) (omega arith) ∙ ap (λ m. n % 2 + m) (count_true-digits k (n / 2) half) ∙ sym (ones_step n)

trailing_head : (d t k : ℕ) (xs : List Bool) → d < 2 → ((i : ℕ) → i < t → get_or xs i false ≡ false) → (t < k → get_or xs t false ≡ true) → ((i : ℕ) → i < under d t → get_or (eqb d 1 ∷ xs) i false ≡ false) × (under d t < suc k → get_or (eqb d 1 ∷ xs) (under d t) false ≡ true)
trailing_head zero t k xs h before found = (elim [ zero ↦ λ _. refl | suc i ↦ λ p. before i (omega arith) ], λ p. found (omega arith))
trailing_head (suc zero) t k xs h before found = (λ i p. absurd (omega arith), λ p. refl)
trailing_head (suc (suc d)) t k xs h before found = absurd (omega arith)

-- below the first digit that is set
pub trailing-digits : (k n : ℕ) → ((i : ℕ) → i < count_trailing_zeros k n → get_or (digits k n) i false ≡ false) × (count_trailing_zeros k n < k → get_or (digits k n) (count_trailing_zeros k n) false ≡ true)
unfolding digits count_trailing_zeros
trailing-digits zero n = (λ i p. refl, λ p. absurd (omega arith))
trailing-digits (suc k) n =
    let rest = trailing-digits k (n / 2) in
    trailing_head (n % 2) (count_trailing_zeros k (n / 2)) k (digits k (n / 2)) (omega arith) rest.0 rest.1

above_top : (k n i : ℕ) → n < 2 ^ k → (j : ℕ) → n < 2 ^ j → j ≤ i → get_or (digits k n) i false ≡ false
above_top k n i h j p q =
    elim (cases_lt i k) [
      | inl w ↦ get_or-digits k n i w ∙ ap (λ d. eqb d 1) (bit_at_above n j i p q)
      | inr w ↦ get_or_past (digits k n) i false (omega (arith, length-digits k n))
    ]

top_digit : (n j : ℕ) → 2 ^ j ≤ n → n < 2 ^ suc j → bit_at n j ≡ 1
top_digit n j low high =
    let e : 2 ^ suc j ≡ 2 ^ j * 2 = pow-suc 2 j in
    let q : n / 2 ^ j ≡ 1 = div-eq_of_lt-le {k = 1} (2 ^ j) {m = n} (omega arith) (omega (arith, rw e at high)) in
    ap (λ d. d % 2) q

-- above the last digit that is set
pub leading-digits : (k n : ℕ) → n < 2 ^ k → ((i : ℕ) → k ≤ i + count_leading_zeros k n → get_or (digits k n) i false ≡ false) × ((i : ℕ) → i + count_leading_zeros k n + 1 ≡ k → get_or (digits k n) i false ≡ true)
leading-digits k zero h =
    let e = leading_of_zero k in
    (λ i p. above_top k 0 i h 0 (omega arith) (omega arith), λ i p. absurd (omega (arith, e)))
leading-digits k (suc n) h =
    let top = leading_top k (suc n) (omega arith) h in (
      λ i p. above_top k (suc n) i h (suc top.0) top.3 (omega (arith, top.1)),
      λ i p. let e : i ≡ top.0 = omega (arith, top.1) in
          rw e (get_or-digits k (suc n) top.0 (omega (arith, top.1)) ∙ ap (λ d. eqb d 1) (top_digit (suc n) top.0 top.2 top.3)),
    )

-- ---- a block as its number

-- the bits of what is made of a number
pub made : {S : Type 0} (bits_of : S → ℕ) (of_bits : ℕ → S) (bits : S → List Bool) (k w : ℕ) → k ≡ w → ((x : S) → bits x ≡ digits k (bits_of x)) → ((n : ℕ) → n < 2 ^ w → bits_of (of_bits n) ≡ n) → (r : S) (n : ℕ) → r ≡ of_bits n → n < 2 ^ k → bits r ≡ digits k n
made bits_of of_bits bits k w e law back r n is h =
    let within : n < 2 ^ w = rw e at h in
    law r ∙ ap (λ x. digits k (bits_of x)) is ∙ ap (digits k) (back n within)

pub bit_len-bits : (w : Width) → bits w ≡ bit_len w
bit_len-bits w8 = refl
bit_len-bits w16 = refl
bit_len-bits w32 = refl
bit_len-bits w64 = refl
bit_len-bits w128 = refl

pub map_not-replicate : (k : ℕ) → map not (replicate k false) ≡ replicate k true
map_not-replicate zero = refl
map_not-replicate (suc k) = ap (λ (xs : List Bool). true ∷ xs) (map_not-replicate k)

same_head : (d e : ℕ) → d < 2 → e < 2 → eqb d 1 ≡ eqb e 1 → d ≡ e
same_head zero zero p q h = refl
same_head zero (suc zero) p q h = cc
same_head (suc zero) zero p q h = cc
same_head (suc zero) (suc zero) p q h = refl
same_head d (suc (suc e)) p q h = absurd (omega arith)
same_head (suc (suc d)) e p q h = absurd (omega arith)

-- numbers of k digits with equal digits are equal
pub digits-injective : (k m n : ℕ) → m < 2 ^ k → n < 2 ^ k → digits k m ≡ digits k n → m ≡ n
digits-injective k m n p q h =
    same_from_bits_below k m n p q (λ i w.
    same_head (bit_at m i) (bit_at n i) (bit_at-lt m i) (bit_at-lt n i)
    (sym (get_or-digits k m i w) ∙ ap (λ (xs : List Bool). get_or xs i false) h ∙ get_or-digits k n i w))

-- ---- one bit

-- where there is no zero below the lowest bit set, counted from the index p on, that bit is set
pub first_is_set : (z k p : ℕ) (xs ys : List Bool) → length xs ≡ k → p < k → 0 < k → ((i : ℕ) → i < z → get_or (drop p xs ++ ys) i false ≡ false) → (z < k → get_or (drop p xs ++ ys) z false ≡ true) → eqb z 0 ≡ get_or xs p false
first_is_set zero k p xs ys e h pos before found =
    let n : 0 < length (drop p xs) = omega (arith, length-drop p xs) in
    let q : p + 0 ≡ p = omega arith in
    sym (found pos) ∙ get_or_append_left (drop p xs) ys false 0 n ∙ get_or-drop p xs 0 false ∙ ap (λ i. get_or xs i false) q
first_is_set (suc z) k p xs ys e h pos before found =
    let n : 0 < length (drop p xs) = omega (arith, length-drop p xs) in
    let q : p + 0 ≡ p = omega arith in
    ne_eqb (suc z) 0 (λ e'. absurd (omega arith))
    ∙ sym (before 0 (omega arith)) ∙ get_or_append_left (drop p xs) ys false 0 n ∙ get_or-drop p xs 0 false ∙ ap (λ i. get_or xs i false) q

differs_true : (x : Bool) → differs x true ≡ not x
differs_true true = refl
differs_true false = refl

differs_false : (x : Bool) → differs x false ≡ x
differs_false true = refl
differs_false false = refl

differs_none : (xs : List Bool) (q : ℕ) → length xs ≡ q → bitwise differs xs (replicate q false) ≡ xs
differs_none [] q e = refl
differs_none (x ∷ xs) zero e = cc
differs_none (x ∷ xs) (suc q) e = ap₂ (λ (y : Bool) (ys : List Bool). y ∷ ys) (differs_false x) (differs_none xs q (omega arith))

-- a list against one bit set
flipped_at : (xs : List Bool) (p q : ℕ) → length xs ≡ p + suc q → bitwise differs xs (replicate p false ++ (true ∷ replicate q false)) ≡ set xs p (not (get_or xs p false))
flipped_at [] p q e = absurd (omega arith)
flipped_at (x ∷ xs) zero q e = ap₂ (λ (y : Bool) (ys : List Bool). y ∷ ys) (differs_true x) (differs_none xs q (omega arith))
flipped_at (x ∷ xs) (suc p) q e = ap₂ (λ (y : Bool) (ys : List Bool). y ∷ ys) (differs_false x) (flipped_at xs p q (omega arith))

one_taken : (r m : ℕ) → 0 < r → r ≤ suc m → take r (true ∷ replicate m false) ≡ true ∷ replicate (r - 1) false
one_taken zero m h p = absurd (omega arith)
one_taken (suc r) m h p =
    let e : suc r - 1 ≡ r = omega arith in
    rw e (ap (λ (xs : List Bool). true ∷ xs) (take-replicate r m false (omega arith)))

not_is : (x v : Bool) → (x ≡ v → ⊥) → not x ≡ v
not_is true true h = absurd (h refl)
not_is true false h = refl
not_is false true h = refl
not_is false false h = absurd (h refl)

pub flipped_to : (k p : ℕ) (xs ys : List Bool) (v : Bool) → length xs ≡ k → p < k → ys ≡ true ∷ replicate (k - 1) false → (get_or xs p false ≡ v → ⊥) → bitwise differs xs (replicate p false ++ take (k - p) ys) ≡ set xs p v
flipped_to k p xs ys v e h one other =
    let r : 0 < k - p = omega arith in
    let n : length xs ≡ p + suc (k - p - 1) = omega arith in
    ap (λ zs. bitwise differs xs (replicate p false ++ zs)) (ap (take (k - p)) one ∙ one_taken (k - p) (k - 1) r (omega arith))
    ∙ flipped_at xs p (k - p - 1) n
    ∙ ap (set xs p) (not_is (get_or xs p false) v other)

pub beq-false : (a b : Bool) → beq a b ≡ false → a ≡ b → ⊥
beq-false true true h e = cc
beq-false true false h e = cc
beq-false false true h e = cc
beq-false false false h e = cc
