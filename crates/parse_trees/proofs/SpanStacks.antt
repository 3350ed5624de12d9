-- Stacks of spans whose tops are last.
use Rattle.std.proofs.Common.{◌≡◌, ℕ, zero, suc, ◌-◌, ◌<◌, ◌≤◌, ◌⊎◌, inl, inr, ⊎_elim, List, [], ◌∷◌, ◌++◌, length, get_or, take, reverse, Some, refl, sym, ap, ◌∙◌, arith}
use Rattle.std.specs.Prelude.{slice_get}
use Rattle.std.proofs.lemmas.List.{get_or-reverse, get_or-map, length-map}
use Rattle.cfg_base.specs.SpanModel.{SpanModel}
use Rattle.cfg_theory.specs.Fold.{no_span}
use Rattle.lr_theory.specs.StackValues.{reduction_span}
use Rattle.parse_trees.specs.Stacks.{span_of_places, spans_of, StartsAscend, StartBy}

-- an entry counted from the top
pub from_top : (spans : List SpanModel) (m : ℕ) (x : SpanModel) → m < length spans → x ≡ get_or spans (length spans - 1 - m) x → get_or (reverse (spans_of spans)) m no_span ≡ span_of_places x
from_top spans m x lt is =
    let len : length (spans_of spans) ≡ length spans = length-map spans span_of_places in
    let turned : get_or (reverse (spans_of spans)) m no_span ≡ get_or (spans_of spans) (length (spans_of spans) - 1 - m) no_span = get_or-reverse (spans_of spans) m no_span (omega (arith, len)) in
    turned ∙ ap (λ k. get_or (spans_of spans) (k - 1 - m) no_span) len ∙ get_or-map span_of_places spans (length spans - 1 - m) x no_span (omega arith) ∙ ap span_of_places (sym is)

-- the span of a reduction
pub reduced : (spans : List SpanModel) (count : ℕ) (x y made : SpanModel) → 0 < count → count ≤ length spans → x ≡ get_or spans (length spans - count) x → y ≡ get_or spans (length spans - 1) y →
    made.start ≡ x.start → made.end ≡ y.end → span_of_places made ≡ reduction_span count (reverse (spans_of spans))
reduced spans zero x y made some le xs ys es ee = absurd (omega arith)
reduced spans (suc m) x y made some le xs ys es ee =
    let deep : length spans - suc m ≡ length spans - 1 - m = omega arith in
    let top : length spans - 1 ≡ length spans - 1 - 0 = omega arith in
    let bottom = from_top spans m x (omega arith) (xs ∙ ap (λ k. get_or spans k x) deep) in
    let last = from_top spans 0 y (omega arith) (ys ∙ ap (λ k. get_or spans k y) top) in
    λ i. record { from = (es ∙ sym (ap (λ s. s.from) bottom)) i; to = (ee ∙ sym (ap (λ s. s.to) last)) i }

-- the entries after one is put on the first ones
pub pushed_at : {X : Type 0} (xs : List X) (k j : ℕ) (p x : X) → k ≤ length xs → slice_get (take k xs ++ p ∷ []) j ≡ Some x → ((j < k) × (slice_get xs j ≡ Some x)) ⊎ ((j ≡ k) × (p ≡ x))
pushed_at [] zero zero p x le e = inr (refl, cc)
pushed_at [] zero (suc j) p x le e = cc
pushed_at [] (suc k) j p x le e = absurd (omega arith)
pushed_at (y ∷ xs) zero zero p x le e = inr (refl, cc)
pushed_at (y ∷ xs) zero (suc j) p x le e = cc
pushed_at (y ∷ xs) (suc k) zero p x le e = inl (omega arith, e)
pushed_at (y ∷ xs) (suc k) (suc j) p x le e = ⊎_elim
    (λ h. inl (omega (arith, h.0), h.1))
    (λ h. inr (ap suc h.0, h.1))
    (pushed_at xs k j p x (omega arith) e)

pub some_at : {X : Type 0} (xs : List X) (k : ℕ) → k < length xs → (x : X) × (slice_get xs k ≡ Some x) × ((d : X) → get_or xs k d ≡ x)
some_at [] k lt = absurd (omega arith)
some_at (x ∷ xs) zero lt = (x, refl, λ d. refl)
some_at (x ∷ xs) (suc k) lt = some_at xs k (omega arith)

-- an entry below what a reduction takes starts no later than it does
starts_before : (spans : List SpanModel) (count : ℕ) (place : SpanModel) (j : ℕ) (x : SpanModel) → StartsAscend spans → count ≤ length spans → span_of_places place ≡ reduction_span count (reverse (spans_of spans)) →
    j < length spans - count → slice_get spans j ≡ Some x → x.start ≤ place.start
starts_before spans zero place j x up le is lt e =
    let y = some_at spans (length spans - 1 - 0) (omega arith) in
    let top = from_top spans 0 y.0 (omega arith) (sym (y.2 y.0)) in
    let same : place.start ≡ y.0.start = ap (λ s. s.from) (is ∙ top) in
    let h = up.ascend j (length spans - 1 - 0) x y.0 (omega arith) e y.1 in
    omega (arith, same, h)
starts_before spans (suc m) place j x up le is lt e =
    let y = some_at spans (length spans - 1 - m) (omega arith) in
    let deep = from_top spans m y.0 (omega arith) (sym (y.2 y.0)) in
    let same : place.start ≡ y.0.start = ap (λ s. s.from) is ∙ ap (λ s. s.from) deep in
    let h = up.ascend j (length spans - 1 - m) x y.0 (omega arith) e y.1 in
    omega (arith, same, h)

-- starts still ascend where one is put on that starts no earlier
pub ascend_pushed : (spans : List SpanModel) (k : ℕ) (place : SpanModel) → StartsAscend spans → k ≤ length spans → ((j : ℕ) (x : SpanModel) → j < k → slice_get spans j ≡ Some x → x.start ≤ place.start) → StartsAscend (take k spans ++ place ∷ [])
ascend_pushed spans k place up le below = record { ascend = λ i j x y le' ex ey. by i j x y le' (pushed_at spans k i place x le ex) (pushed_at spans k j place y le ey) }
  where
    by : (i j : ℕ) (x y : SpanModel) → i ≤ j → ((i < k) × (slice_get spans i ≡ Some x)) ⊎ ((i ≡ k) × (place ≡ x)) → ((j < k) × (slice_get spans j ≡ Some y)) ⊎ ((j ≡ k) × (place ≡ y)) → x.start ≤ y.start
    by i j x y le' (inl a) (inl b) = up.ascend i j x y le' a.1 b.1
    by i j x y le' (inl a) (inr b) = let h = below i x a.0 a.1 in let s = ap (λ (p : SpanModel). p.start) b.1 in omega (arith, h, s)
    by i j x y le' (inr a) (inl b) = let p = a.0 in let q = b.0 in absurd (omega (arith, p, q))
    by i j x y le' (inr a) (inr b) = let s = ap (λ (p : SpanModel). p.start) (sym a.1 ∙ b.1) in omega (arith, s)

pub ascend_reduced : (spans : List SpanModel) (count : ℕ) (place : SpanModel) → StartsAscend spans → count ≤ length spans → span_of_places place ≡ reduction_span count (reverse (spans_of spans)) → StartsAscend (take (length spans - count) spans ++ place ∷ [])
ascend_reduced spans count place up le is = ascend_pushed spans (length spans - count) place up (omega arith) (λ j x lt e. starts_before spans count place j x up le is lt e)

-- the place of a reduction starts no later than the stack does
pub place_by : (spans : List SpanModel) (count : ℕ) (place : SpanModel) (m : ℕ) → StartBy spans m → count ≤ length spans → span_of_places place ≡ reduction_span count (reverse (spans_of spans)) → place.start ≤ m
place_by [] zero place m up le is = let same : place.start ≡ 0 = ap (λ s. s.from) is in omega (arith, same)
place_by (x ∷ spans) zero place m up le is =
    let y = some_at (x ∷ spans) (length (x ∷ spans) - 1 - 0) (omega arith) in
    let top = from_top (x ∷ spans) 0 y.0 (omega arith) (sym (y.2 y.0)) in
    let same : place.start ≡ y.0.start = ap (λ s. s.from) (is ∙ top) in
    let h = up.by (length (x ∷ spans) - 1 - 0) y.0 y.1 in
    omega (arith, same, h)
place_by spans (suc n) place m up le is =
    let y = some_at spans (length spans - 1 - n) (omega arith) in
    let deep = from_top spans n y.0 (omega arith) (sym (y.2 y.0)) in
    let same : place.start ≡ y.0.start = ap (λ s. s.from) is ∙ ap (λ s. s.from) deep in
    let h = up.by (length spans - 1 - n) y.0 y.1 in
    omega (arith, same, h)

pub start_reduced : (spans : List SpanModel) (count : ℕ) (place : SpanModel) (m : ℕ) → StartBy spans m → count ≤ length spans → span_of_places place ≡ reduction_span count (reverse (spans_of spans)) → StartBy (take (length spans - count) spans ++ place ∷ []) m
start_reduced spans count place m up le is = record {
  by = λ k x e. ⊎_elim
      (λ h. up.by k x h.1)
      (λ h. let p = place_by spans count place m up le is in let s = ap (λ (q : SpanModel). q.start) h.1 in omega (arith, p, s))
      (pushed_at spans (length spans - count) k place x (omega arith) e);
}
