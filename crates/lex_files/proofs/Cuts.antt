-- Pieces of a line, and where it may be cut.
use Rattle.std.proofs.Common.{◌≡◌, ◌≢◌, ℕ, zero, suc, ◌+◌, ◌-◌, ◌<◌, ◌≤◌, Bool, true, false, cond, eqb, not, List, [], ◌∷◌, length, reverse, get_or, Option, Some, None, option_map, refl, sym, ap, ◌∙◌, subst, arith, Bor, leb, ◌⊎◌, inl, inr}
use Rattle.std.specs.Char.{is_ascii_whitespace}
use Rattle.std.specs.List.{suffix_len}
use Rattle.std.specs.Option.{MatchOption}
use Rattle.std.specs.Str.{IsUtf8, IsCharBoundary}
use Rattle.std.proofs.lemmas.Bool.{eqb-true}
use Rattle.std.proofs.lemmas.Bool.Decides.{nat_tests, leb_tells}
use Rattle.std.proofs.lemmas.List.{get_or-reverse, length-reverse}
use Rattle.std.proofs.lemmas.List.Sums.{prefix_len_stops, suffix_len-le-length}
use Rattle.std.proofs.lemmas.Str.{IsCharBoundary-start, IsCharBoundary-after_ascii}
use Rattle.lex_files.specs.Pieces.{after_byte, name_start}

pub after_byte_is : (c : ℕ) (bs : List ℕ) (r : Option (Bor (List ℕ))) → MatchOption r ((rest : List ℕ) → bs ≢ c ∷ rest) (λ x. bs ≡ c ∷ x.now) → option_map (λ s. s.now) r ≡ after_byte c bs
after_byte_is c bs (Some x) h = rw h (same x.now)
  where
    same : (xs : List ℕ) → Some xs ≡ after_byte c (c ∷ xs)
    same xs = grind (arith, nat_tests)
after_byte_is c [] None h = refl
after_byte_is c (b ∷ bs) None h = by (eqb b c) refl
  where
    by : (t : Bool) → eqb b c ≡ t → None ≡ cond t (Some bs) None
    by true e = absurd (h bs (ap (λ x. x ∷ bs) (eqb-true b c e)))
    by false e = refl

white_ascii : (b : ℕ) → not (is_ascii_whitespace b) ≡ false → b < 128
white_ascii b h = grind (arith, nat_tests)

-- the byte before the last run that isn't white is white
white_before : (bs : List ℕ) (n : ℕ) → length bs ≡ suffix_len (λ b. not (is_ascii_whitespace b)) bs + (n + 1) → get_or bs n 0 < 128
white_before bs n e =
    let k = suffix_len (λ b. not (is_ascii_whitespace b)) bs in
    let fewer : k < length bs = omega arith in
    let fewer_back : k < length (reverse bs) = rw (length-reverse bs) fewer in
    let stops = prefix_len_stops (λ b. not (is_ascii_whitespace b)) (reverse bs) 0 fewer_back in
    let at : length bs - 1 - k ≡ n = omega (arith, e) in
    white_ascii (get_or bs n 0) (ap (λ m. not (is_ascii_whitespace (get_or bs m 0))) (sym at) ∙ ap (λ b. not (is_ascii_whitespace b)) (sym (get_or-reverse bs k 0 fewer)) ∙ stops)

pub name_cut : (bs : List ℕ) → IsUtf8 bs → IsCharBoundary bs (name_start bs)
name_cut bs u = at (name_start bs) refl
  where
    at : (n : ℕ) → name_start bs ≡ n → IsCharBoundary bs n
    at zero e = IsCharBoundary-start bs u
    at (suc m) e =
        let le = suffix_len-le-length (λ b. not (is_ascii_whitespace b)) bs in
        let e' : length bs ≡ suffix_len (λ b. not (is_ascii_whitespace b)) bs + (m + 1) = omega (arith, e, le) in
        subst (IsCharBoundary bs) (omega arith) (IsCharBoundary-after_ascii bs m u (omega (arith, e')) (white_before bs m e'))

-- the last boundary up to one is that one
pub floor_at : (text : List ℕ) (at f : ℕ) → f ≤ at → ((i : ℕ) → f < i → i ≤ at → ¬ (IsCharBoundary text i)) → IsCharBoundary text at → f ≡ at
floor_at text at f le nearest cut = by (leb_tells at f)
  where
    by : ((leb at f ≡ true) × (at ≤ f)) ⊎ ((leb at f ≡ false) × (f < at)) → f ≡ at
    by (inl h) = omega (arith, le, h.1)
    by (inr h) = absurd (nearest at h.1 (omega arith) cut)
