-- A list of symbols from its end.
use Rattle.std.proofs.Common.{◌≡◌, ℕ, zero, suc, ◌+◌, ◌-◌, ◌<◌, List, [], ◌∷◌, length, get_or, drop, Some, slice_get, sym, ap, ◌∙◌, arith}
use Rattle.std.specs.Prelude.{map}
use Rattle.std.proofs.lemmas.List.{length-map, get_or-map}
use Rattle.cfg_theory.specs.Grammar.{Sym}
use Rattle.cfg_sets.proofs.FirstSteps.{drop_here}

module _ {X : Type 0} (f : X → Sym) (xs : List X) (index at : ℕ) (x : X) (e : at + 1 + index ≡ length xs) (is : x ≡ get_or xs at x) where
  -- the rest from the next symbol on
  pub rest_next : drop (length xs - (index + 1)) (map f xs) ≡ f x ∷ drop (length xs - index) (map f xs)
  rest_next =
      let len = length-map xs f in
      let lt : at < length xs = omega (arith, e) in
      let lt' : at < length (map f xs) = omega (arith, lt, len) in
      let here : f x ≡ get_or (map f xs) at (f x) = ap f is ∙ sym (get_or-map f xs at x (f x) lt) in
      let a : length xs - (index + 1) ≡ at = omega (arith, e) in
      let b : suc at ≡ length xs - index = omega (arith, e) in
      ap (λ k. drop k (map f xs)) a ∙ drop_here (map f xs) at (f x) (f x) lt' here ∙ ap (λ k. f x ∷ drop k (map f xs)) b

  pub symbol_here : slice_get (map f xs) at ≡ Some (f x)
  symbol_here = get_here xs at x (omega (arith, e)) is
    where
      get_here : (l : List X) (i : ℕ) (y : X) → i < length l → y ≡ get_or l i y → slice_get (map f l) i ≡ Some (f y)
      get_here [] i y lt q = absurd (omega (arith, lt))
      get_here (z ∷ l) zero y lt q = ap (λ u. Some (f u)) (sym q)
      get_here (z ∷ l) (suc i) y lt q = get_here l i y (omega (arith, lt)) q
