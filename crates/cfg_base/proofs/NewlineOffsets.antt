-- The offsets of the LFs of a text: by index, in order, and counted.
use Rattle.std.proofs.Common.{◌≡◌, ℕ, zero, suc, ◌+◌, ◌<◌, ◌≤◌, Bool, true, false, cond, List, [], ◌∷◌, ◌++◌, length, get_or, take, drop, map, refl, sym, ap, ◌∙◌, arith, count_by, length-append, ◌⊎◌, inl, inr}
use Rattle.std.proofs.lemmas.Bool.{eqb-true, cases_eq}
use Rattle.std.proofs.lemmas.List.Sums.{sum_by-cons, sum_by-drop_more}
use Rattle.std.proofs.lemmas.List.{length-take-le, take_more}
use Rattle.std.specs.List.Sorted.{IsNonDecreasing}
use Rattle.std.proofs.lemmas.List.Sorted.{IsNonDecreasingBy-from_default}
use Rattle.cfg_base.specs.Text.{is_line_feed}
use Rattle.cfg_base.specs.Newlines.{joined, newline_offsets, newlines_of, Newlines}

-- index i of the kept offsets is that of an LF
pub record IsOffset (p : ℕ) (offsets t : List ℕ) (i : ℕ) : Type 0 where
  pub at : ℕ
  pub offset : get_or offsets i 0 ≡ p + at
  pub inside : at < length t
  pub newline : get_or t at 0 ≡ 10

later : (p c : ℕ) (cs offsets : List ℕ) (i : ℕ) → IsOffset (suc p) offsets cs i → IsOffset p offsets (c ∷ cs) i
later p c cs offsets i h = record { at = suc h.at; offset = omega (arith, h.offset); inside = omega (arith, h.inside); newline = h.newline }

offset_step : (p c : ℕ) (cs : List ℕ) → ((i : ℕ) → i < length (newline_offsets (suc p) cs) → IsOffset (suc p) (newline_offsets (suc p) cs) cs i) → (b : Bool) → is_line_feed c ≡ b → (i : ℕ) → i < length (cond b (p ∷ newline_offsets (suc p) cs) (newline_offsets (suc p) cs)) → IsOffset p (cond b (p ∷ newline_offsets (suc p) cs) (newline_offsets (suc p) cs)) (c ∷ cs) i
offset_step p c cs rec true e zero h = record { at = 0; offset = omega arith; inside = omega arith; newline = eqb-true c 10 e }
offset_step p c cs rec true e (suc i) h =
    let r = later p c cs (newline_offsets (suc p) cs) i (rec i (omega (arith, h))) in
    record { at = r.at; offset = r.offset; inside = r.inside; newline = r.newline }
offset_step p c cs rec false e i h = later p c cs (newline_offsets (suc p) cs) i (rec i h)

pub offset_is_newline : (p : ℕ) (t : List ℕ) (i : ℕ) → i < length (newline_offsets p t) → IsOffset p (newline_offsets p t) t i
offset_is_newline p [] i h = absurd (omega arith)
offset_is_newline p (c ∷ cs) i h = offset_step p c cs (offset_is_newline (suc p) cs) (is_line_feed c) refl i h

-- each LF has its index
pub record HasOffset (p : ℕ) (offsets : List ℕ) (k : ℕ) : Type 0 where
  pub index : ℕ
  pub below : index < length offsets
  pub offset : get_or offsets index 0 ≡ p + k

has_step : (p c : ℕ) (cs : List ℕ) → ((k : ℕ) → k < length cs → get_or cs k 0 ≡ 10 → HasOffset (suc p) (newline_offsets (suc p) cs) k) → (b : Bool) → is_line_feed c ≡ b → (k : ℕ) → k < length (c ∷ cs) → get_or (c ∷ cs) k 0 ≡ 10 → HasOffset p (cond b (p ∷ newline_offsets (suc p) cs) (newline_offsets (suc p) cs)) k
has_step p c cs rec true e zero h n = record { index = 0; below = omega arith; offset = omega arith }
has_step p c cs rec true e (suc k) h n =
    let r = rec k (omega arith) n in
    record { index = suc r.index; below = omega (arith, r.below); offset = omega (arith, r.offset) }
has_step p c cs rec false e zero h n = absurd (let n' : c ≡ 10 = n in let t : is_line_feed c ≡ true = rw n' refl in cc)
has_step p c cs rec false e (suc k) h n =
    let r = rec k (omega arith) n in
    record { index = r.index; below = r.below; offset = omega (arith, r.offset) }

pub newline_has_offset : (p : ℕ) (t : List ℕ) (k : ℕ) → k < length t → get_or t k 0 ≡ 10 → HasOffset p (newline_offsets p t) k
newline_has_offset p [] k h e = absurd (omega arith)
newline_has_offset p (c ∷ cs) k h e = has_step p c cs (newline_has_offset (suc p) cs) (is_line_feed c) refl k h e

-- the offsets rise
rise_step : (p c : ℕ) (cs : List ℕ) → ((i j : ℕ) → i < j → j < length (newline_offsets (suc p) cs) → get_or (newline_offsets (suc p) cs) i 0 < get_or (newline_offsets (suc p) cs) j 0) → (b : Bool) → (i j : ℕ) → i < j → j < length (cond b (p ∷ newline_offsets (suc p) cs) (newline_offsets (suc p) cs)) → get_or (cond b (p ∷ newline_offsets (suc p) cs) (newline_offsets (suc p) cs)) i 0 < get_or (cond b (p ∷ newline_offsets (suc p) cs) (newline_offsets (suc p) cs)) j 0
rise_step p c cs rec true zero zero a h = absurd (omega arith)
rise_step p c cs rec true zero (suc j) a h =
    let r = offset_is_newline (suc p) cs j (omega (arith, h)) in omega (arith, r.offset)
rise_step p c cs rec true (suc i) zero a h = absurd (omega arith)
rise_step p c cs rec true (suc i) (suc j) a h = rec i j (omega arith) (omega (arith, h))
rise_step p c cs rec false i j a h = rec i j a h

pub offsets_rise : (p : ℕ) (t : List ℕ) (i j : ℕ) → i < j → j < length (newline_offsets p t) → get_or (newline_offsets p t) i 0 < get_or (newline_offsets p t) j 0
offsets_rise p [] i j a h = absurd (omega arith)
offsets_rise p (c ∷ cs) i j a h = rise_step p c cs (offsets_rise (suc p) cs) (is_line_feed c) i j a h

le_cases : (p : ℕ) (t : List ℕ) (i j : ℕ) → i ≤ j → j < length (newline_offsets p t) → (i ≡ j) ⊎ (i ≡ j → ⊥) → get_or (newline_offsets p t) i 0 ≤ get_or (newline_offsets p t) j 0
le_cases p t i j a h (inl e) = rw e (omega arith)
le_cases p t i j a h (inr n) = let r : i < j = omega (arith, n) in let s = offsets_rise p t i j r h in omega (arith, s)

pub offsets_in_order : (p : ℕ) (t : List ℕ) → IsNonDecreasing (newline_offsets p t)
offsets_in_order p t = IsNonDecreasingBy-from_default (λ x. x) (newline_offsets p t) 0 (λ i j a h. le_cases p t i j a h (cases_eq i j))

-- how many there are
count_step : (p c : ℕ) (cs : List ℕ) → length (newline_offsets (suc p) cs) ≡ count_by is_line_feed cs → (b : Bool) → length (cond b (p ∷ newline_offsets (suc p) cs) (newline_offsets (suc p) cs)) ≡ cond b 1 0 + count_by is_line_feed cs
count_step p c cs e true = let s : length (p ∷ newline_offsets (suc p) cs) ≡ 1 + length (newline_offsets (suc p) cs) = omega arith in s ∙ ap (λ n. 1 + n) e
count_step p c cs e false = omega (arith, e)

pub length-newline_offsets : (p : ℕ) (t : List ℕ) → length (newline_offsets p t) ≡ count_by is_line_feed t
length-newline_offsets p [] = refl
length-newline_offsets p (c ∷ cs) = count_step p c cs (length-newline_offsets (suc p) cs) (is_line_feed c) ∙ sym (sum_by-cons (λ x. cond (is_line_feed x) 1 0) c cs)

-- those of two texts, one after the other
append_step : (p c : ℕ) (cs bs : List ℕ) → newline_offsets (suc p) (cs ++ bs) ≡ newline_offsets (suc p) cs ++ newline_offsets (suc p + length cs) bs → (b : Bool) → cond b (p ∷ newline_offsets (suc p) (cs ++ bs)) (newline_offsets (suc p) (cs ++ bs)) ≡ cond b (p ∷ newline_offsets (suc p) cs) (newline_offsets (suc p) cs) ++ newline_offsets (suc p + length cs) bs
append_step p c cs bs e true = ap (λ (xs : List ℕ). p ∷ xs) e
append_step p c cs bs e false = e

pub newline_offsets-append : (p : ℕ) (cs bs : List ℕ) → newline_offsets p (cs ++ bs) ≡ newline_offsets p cs ++ newline_offsets (p + length cs) bs
newline_offsets-append p [] bs = ap (λ (n : ℕ). newline_offsets n bs) (omega arith)
newline_offsets-append p (c ∷ cs) bs =
    let e : p + length (c ∷ cs) ≡ suc p + length cs = omega arith in
    rw e (append_step p c cs bs (newline_offsets-append (suc p) cs bs) (is_line_feed c))

-- those of a text that begins further on
shift_step : (p q c : ℕ) (cs : List ℕ) → newline_offsets (suc (p + q)) cs ≡ map (λ k. p + k) (newline_offsets (suc q) cs) → (b : Bool) → cond b ((p + q) ∷ newline_offsets (suc (p + q)) cs) (newline_offsets (suc (p + q)) cs) ≡ map (λ k. p + k) (cond b (q ∷ newline_offsets (suc q) cs) (newline_offsets (suc q) cs))
shift_step p q c cs e true = ap (λ (xs : List ℕ). (p + q) ∷ xs) e
shift_step p q c cs e false = e

pub newline_offsets-shift : (p q : ℕ) (t : List ℕ) → newline_offsets (p + q) t ≡ map (λ k. p + k) (newline_offsets q t)
newline_offsets-shift p q [] = refl
newline_offsets-shift p q (c ∷ cs) =
    let e : suc (p + q) ≡ p + suc q = omega arith in
    shift_step p q c cs (rw e (newline_offsets-shift p (suc q) cs)) (is_line_feed c)

-- one text after another
pub joined_is_append : (a b : List ℕ) → joined (newlines_of a) (newlines_of b) ≡ newlines_of (a ++ b)
joined_is_append a b =
    let shifted : newline_offsets (length a) b ≡ map (λ k. length a + k) (newline_offsets 0 b) = rw (← newline_offsets-shift (length a) 0 b) (ap (λ (n : ℕ). newline_offsets n b) (omega arith)) in
    let offsets : newline_offsets 0 a ++ map (λ k. length a + k) (newline_offsets 0 b) ≡ newline_offsets 0 (a ++ b) =
    rw (← shifted) (sym (newline_offsets-append 0 a b ∙ ap (λ (n : ℕ). newline_offsets 0 a ++ newline_offsets n b) (omega arith))) in
    let bytes : length a + length b ≡ length (a ++ b) = sym (length-append a b) in
    cc

-- one byte more
last_offset : (p c : ℕ) (b : Bool) → is_line_feed c ≡ b → newline_offsets p (c ∷ []) ≡ cond b (p ∷ []) []
last_offset p c b e = ap (λ r. cond r (p ∷ []) []) e

pub offsets_more : (p : ℕ) (t : List ℕ) (i : ℕ) → i < length t → (b : Bool) → is_line_feed (get_or t i 0) ≡ b → newline_offsets p (take (i + 1) t) ≡ newline_offsets p (take i t) ++ cond b ((p + i) ∷ []) []
offsets_more p t i h b e =
    let short : length (take i t) ≡ i = length-take-le i t (omega arith) in
    ap (λ (xs : List ℕ). newline_offsets p xs) (take_more t i 0 h) ∙
    (newline_offsets-append p (take i t) (get_or t i 0 ∷ []) ∙
    ap (λ (xs : List ℕ). newline_offsets p (take i t) ++ xs) (last_offset (p + length (take i t)) (get_or t i 0) b e ∙ ap (λ (n : ℕ). cond b ((p + n) ∷ []) []) short))

pub count_rest : (t : List ℕ) (i : ℕ) → i < length t → (b : Bool) → is_line_feed (get_or t i 0) ≡ b → count_by is_line_feed (drop i t) ≡ cond b 1 0 + count_by is_line_feed (drop (i + 1) t)
count_rest t i h b e = sum_by-drop_more (λ x. cond (is_line_feed x) 1 0) t i 0 h ∙ ap (λ r. cond r 1 0 + count_by is_line_feed (drop (i + 1) t)) e

-- what was kept of a text, and a piece after it
pub fed_is_joined : (xs ys : List ℕ) (n : ℕ) (v : Newlines) (piece : List ℕ) → (let w : Newlines = record { offsets = xs; bytes = n } in w ≡ v) → ys ≡ xs ++ newline_offsets n piece → (let w : Newlines = record { offsets = ys; bytes = n + length piece } in w ≡ joined v (newlines_of piece))
fed_is_joined xs ys n v piece e more =
    let shifted : newline_offsets n piece ≡ map (λ k. n + k) (newline_offsets 0 piece) = ap (λ (m : ℕ). newline_offsets m piece) (let z : n ≡ n + 0 = omega arith in z) ∙ newline_offsets-shift n 0 piece in
    let offsets : ys ≡ xs ++ map (λ k. n + k) (newline_offsets 0 piece) = more ∙ ap (λ (zs : List ℕ). xs ++ zs) shifted in
    rw (← e) (ap (λ (zs : List ℕ). let w : Newlines = record { offsets = zs; bytes = n + length piece } in w) offsets)

pub fed_is_of_text : (xs ys : List ℕ) (n : ℕ) (piece : List ℕ) → ((t : List ℕ) × (let w : Newlines = record { offsets = xs; bytes = n } in newlines_of t ≡ w)) → ys ≡ xs ++ newline_offsets n piece → (t : List ℕ) × (let w : Newlines = record { offsets = ys; bytes = n + length piece } in newlines_of t ≡ w)
fed_is_of_text xs ys n piece (t, e) more =
    (t ++ piece, sym (joined_is_append t piece) ∙ (sym (fed_is_joined xs ys n (newlines_of t) piece (sym e) more)))
