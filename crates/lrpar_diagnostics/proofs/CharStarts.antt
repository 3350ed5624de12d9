-- The first byte of a character, by what is said of `floor_char_boundary`.
use Rattle.std.proofs.Common.{◌≡◌, ℕ, zero, suc, ◌<◌, ◌≤◌, true, false, cond, List, length, get_or, sym, ap, ◌∙◌, subst, arith, ◌⊎◌, inl, inr}
use Rattle.std.specs.Prelude.{slice_range}
use Rattle.std.specs.Fmt.{is_char_start}
use Rattle.std.specs.Str.{IsCharBoundary}
use Rattle.std.proofs.lemmas.Bool.{cases_lt}
use Rattle.std.proofs.lemmas.Bool.Decides.{nat_tests}
use Rattle.std.proofs.lemmas.List.{get_or_past}
use Rattle.lrpar_diagnostics.specs.Places.{char_start, part}

-- the last boundary at or before an offset
pub record IsLast (text : List ℕ) (b kept : ℕ) : Type 0 where
  pub bound : kept ≤ b
  pub boundary : IsCharBoundary text kept
  pub nearest : (i : ℕ) → kept < i → i ≤ b → IsCharBoundary text i → ⊥

starts : (b : ℕ) → (128 ≤ b → 192 ≤ b) → is_char_start b ≡ true
starts b h = grind (arith, nat_tests)

continues : (b : ℕ) → ((128 ≤ b → 192 ≤ b) → ⊥) → is_char_start b ≡ false
continues b h = go (cases_lt b 128) (cases_lt b 192)
  where
    go : ((b < 128) ⊎ (128 ≤ b)) → ((b < 192) ⊎ (192 ≤ b)) → is_char_start b ≡ false
    go (inl low) _ = absurd (h (λ high. omega arith))
    go (inr high) (inr top) = absurd (h (λ _. top))
    go (inr high) (inl mid) = grind (arith, nat_tests)

-- what stands at a boundary begins a character
begins : (text : List ℕ) (b : ℕ) → IsCharBoundary text b → is_char_start (get_or text b 0) ≡ true
begins text b at = starts (get_or text b 0) (λ high. go high (cases_lt b (length text)))
  where
    go : 128 ≤ get_or text b 0 → ((b < length text) ⊎ (length text ≤ b)) → 192 ≤ get_or text b 0
    go high (inl h) = at.1 h high
    go high (inr h) = absurd (let e = get_or_past text b 0 h in omega (arith, e, high))

pub char_start_is : (text : List ℕ) (b kept : ℕ) → b ≤ length text → IsLast text b kept → char_start text b ≡ kept
unfolding char_start
char_start_is text zero kept within last = let h = last.bound in omega (arith, h)
char_start_is text (suc b) kept within last = go (λ w l. char_start_is text b kept w l) (cases_lt kept (suc b))
  where
    go : (b ≤ length text → IsLast text b kept → char_start text b ≡ kept) → ((kept < suc b) ⊎ (suc b ≤ kept)) → cond (is_char_start (get_or text (suc b) 0)) (suc b) (char_start text b) ≡ kept
    go before (inl below) =
        ap (λ t. cond t (suc b) (char_start text b)) (continues _ (λ h. last.nearest (suc b) below (omega arith) (within, λ _. h)))
        ∙ before (omega (arith, within)) (record { bound = omega (arith, below); boundary = last.boundary; nearest = λ i more less. last.nearest i more (omega (arith, less)) })
    go before (inr above) =
        let same : kept ≡ suc b = (let h = last.bound in omega (arith, above, h)) in
        ap (λ t. cond t (suc b) (char_start text b)) (begins text (suc b) (subst (IsCharBoundary text) same last.boundary)) ∙ sym same

-- starts of characters are in order as the offsets are
pub in_order : (text : List ℕ) (a b first last : ℕ) → a ≤ b → IsLast text a first → IsLast text b last → first ≤ last
in_order text a b first last h x y = go (cases_lt last first)
  where
    go : ((last < first) ⊎ (first ≤ last)) → first ≤ last
    go (inl less) = absurd (y.nearest first less (let k = x.bound in omega (arith, h, k)) x.boundary)
    go (inr more) = more

pub part_is : (text : List ℕ) (a b first last : ℕ) (cut : List ℕ) → a ≤ b → b ≤ length text → IsLast text a first → IsLast text b last → cut ≡ slice_range text first last → cut ≡ part text a b
part_is text a b first last cut h within x y e =
    e ∙ ap (λ i. slice_range text i last) (sym (char_start_is text a first (omega (arith, h, within)) x))
    ∙ ap (λ i. slice_range text (char_start text a) i) (sym (char_start_is text b last within y))
