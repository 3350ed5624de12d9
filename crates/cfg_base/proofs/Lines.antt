-- The line of a byte, from how many offsets come before it.
use Rattle.std.proofs.Common.{◌≡◌, ℕ, zero, suc, ◌+◌, ◌-◌, ◌<◌, ◌≤◌, Bool, true, false, not, nat_lt, nat_le, nat_eq, if◌then◌else◌, List, ◌++◌, length, get_or, take, drop, refl, sym, ap, ◌∙◌, arith, count_by, length-append, length-drop, ◌⊎◌, inl, inr, subst}
use Rattle.std.proofs.lemmas.Bool.{ne_eqb, eq-eqb, cases_eq, cases_lt, ltb-true, ltb-false, le-leb}
use lib.Dec.{eqb-suc-zero}
use Rattle.std.proofs.lemmas.List.{get_or-take, get_or-drop, length-take-le, get_or_append_left, get_or-append_right, take-append-drop}
use Rattle.std.proofs.lemmas.List.Sums.{prefix_len_is, suffix_len_is}
use Rattle.std.specs.List.Sorted.{IsNonDecreasing, IsPartitionPoint}
use Rattle.std.specs.List.{prefix_len, suffix_len}
use Rattle.cfg_base.specs.Text.{is_line_feed, is_in_line, line_end, run_end}
use Rattle.cfg_base.specs.Newlines.{line_of, line_start, newline_offsets, Newlines, newlines_of}
use Rattle.cfg_base.proofs.NewlineOffsets.{offset_is_newline, newline_has_offset, offsets_rise, offsets_in_order, length-newline_offsets, newline_offsets-append}

-- m of the offsets come before b
pub record AreBefore (offsets : List ℕ) (b m : ℕ) : Type 0 where
  pub bound : m ≤ length offsets
  pub below : (i : ℕ) → i < m → get_or offsets i 0 < b
  pub above : (i : ℕ) → m ≤ i → i < length offsets → b ≤ get_or offsets i 0

pub before_from_point : (offsets : List ℕ) (b m : ℕ) → m ≤ length offsets → IsPartitionPoint (λ p. nat_lt p b ≡ true) (λ p. nat_lt p b ≡ false) offsets m → AreBefore offsets b m
before_from_point offsets b m bound point = record {
  bound = bound;
  below = λ i h. ltb-true _ _ (point.0 i 0 (omega arith) h);
  above = λ i h k. ltb-false _ _ (point.1 i 0 h k);
}

-- there is one such number
pub before_is_one : (offsets : List ℕ) (b m n : ℕ) → AreBefore offsets b m → AreBefore offsets b n → m ≡ n
before_is_one offsets b m n x y = go (cases_lt m n) (cases_lt n m)
  where
    go : ((m < n) ⊎ (n ≤ m)) → ((n < m) ⊎ (m ≤ n)) → m ≡ n
    go (inl h) _ = absurd (let p = y.below m h in let q = x.above m (omega arith) (omega (arith, y.bound)) in omega (arith, p, q))
    go (inr h) (inl k) = absurd (let p = x.below n k in let q = y.above n (omega arith) (omega (arith, x.bound)) in omega (arith, p, q))
    go (inr h) (inr k) = omega arith

-- as many as there are LFs among the first b bytes
pub counted_before : (t : List ℕ) (b : ℕ) → b ≤ length t → AreBefore (newline_offsets 0 t) b (count_by is_line_feed (take b t))
counted_before t b h =
    let short : length (take b t) ≡ b = length-take-le b t h in
    let front : List ℕ = newline_offsets 0 (take b t) in
    let back : List ℕ = newline_offsets b (drop b t) in
    let count : length front ≡ count_by is_line_feed (take b t) = length-newline_offsets 0 (take b t) in
    let parts : newline_offsets 0 t ≡ front ++ back =
    ap (λ (xs : List ℕ). newline_offsets 0 xs) (sym (take-append-drop b t)) ∙ (newline_offsets-append 0 (take b t) (drop b t) ∙ ap (λ (n : ℕ). front ++ newline_offsets n (drop b t)) (omega (arith, short))) in
    let len : length (newline_offsets 0 t) ≡ length front + length back = ap length parts ∙ length-append front back in
    record {
      bound = omega (arith, count, len);
      below = λ i less.
          let in_front : i < length front = omega (arith, count) in
          let p = offset_is_newline 0 (take b t) i in_front in
          let e : get_or (newline_offsets 0 t) i 0 ≡ get_or front i 0 = ap (λ (xs : List ℕ). get_or xs i 0) parts ∙ get_or_append_left front back 0 i in_front in
          omega (arith, e, p.offset, p.inside, short);
      above = λ i more less.
          let in_back : i - length front < length back = omega (arith, count, len) in
          let p = offset_is_newline b (drop b t) (i - length front) in_back in
          let e : get_or (newline_offsets 0 t) i 0 ≡ get_or back (i - length front) 0 = ap (λ (xs : List ℕ). get_or xs i 0) parts ∙ get_or-append_right front back (length front) i 0 refl (omega (arith, count)) in
          omega (arith, e, p.offset);
    }

pub line_from_count : (t : List ℕ) (b m : ℕ) → b ≤ length t → AreBefore (newline_offsets 0 t) b m → line_of t b ≡ m + 1
line_from_count t b m h x = ap (λ n. n + 1) (before_is_one _ b _ m (counted_before t b h) x)

in_line : (c : ℕ) → (c ≡ 10 → ⊥) → is_in_line c ≡ true
in_line c n = ap not (ne_eqb c 10 n)

not_in_line : (c : ℕ) → c ≡ 10 → is_in_line c ≡ false
not_in_line c e = ap not (eq-eqb c 10 e)

-- no LF stands from the line's start on
start_at : (t : List ℕ) (b m : ℕ) → b ≤ length t → AreBefore (newline_offsets 0 t) b m → (n : ℕ) → n ≤ b → ((i : ℕ) → i < m → get_or (newline_offsets 0 t) i 0 < n) → (0 < n → get_or t (n - 1) 0 ≡ 10) → line_start t b ≡ n
start_at t b m h x n within past newline =
    let short : length (take b t) ≡ b = length-take-le b t h in
    let fails : 0 < n → is_in_line (get_or (take b t) (n - 1) 0) ≡ false =
    λ pos. let less : n - 1 < b = omega arith in rw (get_or-take b t (n - 1) 0 less) (not_in_line _ (newline pos)) in
    let passes : (k : ℕ) → n ≤ k → k < length (take b t) → is_in_line (get_or (take b t) k 0) ≡ true =
    λ k from to.
    let less : k < b = omega (arith, short) in
    rw (get_or-take b t k 0 less)
    (in_line _ (λ lf.
    let p = newline_has_offset 0 t k (omega arith) lf in
    at_most k p.index p.below p.offset (cases_lt p.index m) from less)) in
    let e : suffix_len is_in_line (take b t) ≡ length (take b t) - n = suffix_len_is is_in_line (take b t) n 0 (omega (arith, short)) passes fails in
    omega (arith, e, short)
  where
    at_most : (k i : ℕ) → i < length (newline_offsets 0 t) → get_or (newline_offsets 0 t) i 0 ≡ 0 + k → ((i < m) ⊎ (m ≤ i)) → n ≤ k → k < b → ⊥
    at_most k i below offset (inl less) from to = let p = past i less in omega (arith, p)
    at_most k i below offset (inr more) from to = let p = x.above i more below in omega (arith, p)

pub start_from_count : (t : List ℕ) (b m : ℕ) → b ≤ length t → AreBefore (newline_offsets 0 t) b m → line_start t b ≡ (if nat_eq m 0 then 0 else get_or (newline_offsets 0 t) (m - 1) 0 + 1)
start_from_count t b zero h x = start_at t b zero h x 0 (omega arith) (λ i less. absurd (omega arith)) (λ pos. absurd (omega arith))
start_from_count t b (suc m) h x =
    let last : ℕ = get_or (newline_offsets 0 t) m 0 in
    let inside : last < b = x.below m (omega arith) in
    let p = offset_is_newline 0 t m (omega (arith, x.bound)) in
    let e : suc m - 1 ≡ m = omega arith in
    rw (e, eqb-suc-zero m) (start_at t b (suc m) h x (last + 1) (omega arith)
    (λ i less. until i less (cases_eq i m))
    (λ pos. let back : last + 1 - 1 ≡ p.at = omega (arith, p.offset) in rw back p.newline))
  where
    until : (i : ℕ) → i < suc m → (i ≡ m) ⊎ (i ≡ m → ⊥) → get_or (newline_offsets 0 t) i 0 < get_or (newline_offsets 0 t) m 0 + 1
    until i less (inl e) = rw e (omega arith)
    until i less (inr n) = let r = offsets_rise 0 t i m (omega (arith, n)) (omega (arith, x.bound)) in omega (arith, r)

-- no LF stands from b up to the line's end
end_at : (t : List ℕ) (b m : ℕ) → b ≤ length t → AreBefore (newline_offsets 0 t) b m → (n : ℕ) → b ≤ n → n ≤ length t → ((i : ℕ) → m ≤ i → i < length (newline_offsets 0 t) → n ≤ get_or (newline_offsets 0 t) i 0) → (n < length t → get_or t n 0 ≡ 10) → line_end t b ≡ n
unfolding run_end
end_at t b m h x n after within past newline =
    let rest : length (drop b t) ≡ length t - b = length-drop b t in
    let fails : n - b < length (drop b t) → is_in_line (get_or (drop b t) (n - b) 0) ≡ false =
    λ less. let there : b + (n - b) ≡ n = omega arith in rw (get_or-drop b t (n - b) 0, there) (not_in_line _ (newline (omega (arith, rest)))) in
    let passes : (k : ℕ) → k < n - b → is_in_line (get_or (drop b t) k 0) ≡ true =
    λ k less.
    rw (get_or-drop b t k 0)
    (in_line _ (λ lf.
    let p = newline_has_offset 0 t (b + k) (omega arith) lf in
    at_least k p.index p.below p.offset (cases_lt p.index m) less)) in
    let e : prefix_len is_in_line (drop b t) ≡ n - b = prefix_len_is is_in_line (drop b t) (n - b) 0 (omega (arith, rest)) passes fails in
    omega (arith, e)
  where
    at_least : (k i : ℕ) → i < length (newline_offsets 0 t) → get_or (newline_offsets 0 t) i 0 ≡ 0 + (b + k) → ((i < m) ⊎ (m ≤ i)) → k < n - b → ⊥
    at_least k i below offset (inl less) to = let p = x.below i less in omega (arith, p)
    at_least k i below offset (inr more) to = let p = past i more below in omega (arith, p)

end_by : (t : List ℕ) (b m : ℕ) → b ≤ length t → AreBefore (newline_offsets 0 t) b m → (r : Bool) → nat_lt m (length (newline_offsets 0 t)) ≡ r → line_end t b ≡ (if r then get_or (newline_offsets 0 t) m 0 else length t)
end_by t b m h x true e =
    let there : m < length (newline_offsets 0 t) = ltb-true _ _ e in
    let p = offset_is_newline 0 t m there in
    let offset : p.at ≡ get_or (newline_offsets 0 t) m 0 = omega (arith, p.offset) in
    end_at t b m h x (get_or (newline_offsets 0 t) m 0) (x.above m (omega arith) there) (omega (arith, p.offset, p.inside))
    (λ i more below. from i more below (cases_eq i m))
    (λ less. rw (← offset) p.newline)
  where
    from : (i : ℕ) → m ≤ i → i < length (newline_offsets 0 t) → (i ≡ m) ⊎ (i ≡ m → ⊥) → get_or (newline_offsets 0 t) m 0 ≤ get_or (newline_offsets 0 t) i 0
    from i more below (inl s) = rw s (omega arith)
    from i more below (inr n) = let r = offsets_rise 0 t m i (omega (arith, n)) below in omega (arith, r)
end_by t b m h x false e =
    let none : length (newline_offsets 0 t) ≤ m = ltb-false _ _ e in
    end_at t b m h x (length t) h (omega arith) (λ i more below. absurd (omega arith)) (λ less. absurd (omega arith))

pub end_from_count : (t : List ℕ) (b m : ℕ) → b ≤ length t → AreBefore (newline_offsets 0 t) b m → line_end t b ≡ (if nat_lt m (length (newline_offsets 0 t)) then get_or (newline_offsets 0 t) m 0 else length t)
end_from_count t b m h x = end_by t b m h x (nat_lt m (length (newline_offsets 0 t))) refl

-- what a cache holds of a text
offsets_of : (xs : List ℕ) (n : ℕ) (t : List ℕ) → (let v : Newlines = record { offsets = xs; bytes = n } in v ≡ newlines_of t) → xs ≡ newline_offsets 0 t
offsets_of xs n t e = ap (λ (v : Newlines). v.offsets) e

bytes_of : (xs : List ℕ) (n : ℕ) (t : List ℕ) → (let v : Newlines = record { offsets = xs; bytes = n } in v ≡ newlines_of t) → n ≡ length t
bytes_of xs n t e = ap (λ (v : Newlines). v.bytes) e

pub held_in_order : (xs : List ℕ) (n : ℕ) → ((t : List ℕ) × (let v : Newlines = record { offsets = xs; bytes = n } in newlines_of t ≡ v)) → IsNonDecreasing xs
held_in_order xs n (t, e) = subst IsNonDecreasing (sym (offsets_of xs n t (sym e))) (offsets_in_order 0 t)

-- the answers for a byte of the text
pub record Answers (t : List ℕ) (xs : List ℕ) (n b m : ℕ) : Type 0 where
  pub line : line_of t b ≡ m + 1
  pub start : line_start t b ≡ (if nat_eq m 0 then 0 else get_or xs (m - 1) 0 + 1)
  pub end : line_end t b ≡ (if nat_lt m (length xs) then get_or xs m 0 else n)
  pub inside : nat_le b (length t) ≡ true
  pub bytes : n ≡ length t

pub answers : (xs : List ℕ) (n b m : ℕ) (t : List ℕ) → (let v : Newlines = record { offsets = xs; bytes = n } in v ≡ newlines_of t) → b ≤ n → m ≤ length xs → IsPartitionPoint (λ p. nat_lt p b ≡ true) (λ p. nat_lt p b ≡ false) xs m → Answers t xs n b m
answers xs n b m t e inside bound point =
    let bytes : n ≡ length t = bytes_of xs n t e in
    let offsets : xs ≡ newline_offsets 0 t = offsets_of xs n t e in
    let h : b ≤ length t = omega (arith, bytes) in
    let x : AreBefore (newline_offsets 0 t) b m = subst (λ (ys : List ℕ). AreBefore ys b m) offsets (before_from_point xs b m bound point) in
    record {
      line = line_from_count t b m h x;
      start = rw offsets (start_from_count t b m h x);
      end = rw (offsets, bytes) (end_from_count t b m h x);
      inside = le-leb b (length t) h;
      bytes = bytes;
    }
