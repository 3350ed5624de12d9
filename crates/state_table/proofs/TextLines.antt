-- Texts of a line for each entry.
use Rattle.std.proofs.Common.{◌≡◌, ℕ, ◌+◌, ◌<◌, List, [], ◌∷◌, ◌++◌, length, get_or, take, map, sym, ap, ◌∙◌, subst, arith}
use Rattle.std.specs.Prelude.{All}
use Rattle.std.specs.List.{flat_map}
use Rattle.std.proofs.lemmas.List.{flat_map_more, get_or-map, length-map, map_more}
use Rattle.std.proofs.lemmas.List.Elements.{All-get_or}

module _ {E F : Type 0} (f : E → F) (xs : List E) (i : ℕ) (x : E) (lt : i < length xs) (at : x ≡ get_or xs i x) where
  -- what is so of each entry, of the one that is read
  pub entry_is : (P : F → Type 0) → All P (map f xs) → P (f x)
  entry_is P all =
      let n = length-map xs f in
      subst P (get_or-map f xs i x (f x) lt ∙ ap f (sym at)) (All-get_or P (map f xs) i (f x) (omega (arith, n, lt)) all)

  -- its line behind the others
  pub line_put : (line : F → List ℕ) (before old new : List ℕ) → old ≡ before ++ flat_map line (map f (take i xs)) → new ≡ old ++ line (f x) → new ≡ before ++ flat_map line (map f (take (i + 1) xs))
  line_put line before old new eo en =
      en ∙ (ap (λ l. l ++ line (f x)) eo ∙ (flat_map_more line before (map f (take i xs)) (f x)
      ∙ ap (λ l. before ++ flat_map line l) (sym (map_more f xs i x lt ∙ ap (λ y. map f (take i xs) ++ f y ∷ []) (sym at)))))
