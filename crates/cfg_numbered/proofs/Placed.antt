-- A map from names to their indices.
use Rattle.std.proofs.Common.{◌≡◌, ℕ, suc, ◌+◌, Bool, false, ◌||◌, List, [], ◌∷◌, ◌++◌, length, take, Option, Some, None, if◌then◌else◌, refl, sym, ap, ◌∙◌, arith, Bor}
use Rattle.std.specs.Prelude.{map, option_map, slice_get}
use Rattle.std.specs.List.{list_any, enumerate_from}
use Rattle.std.specs.Str.{bytes_eq}
use Rattle.indexmap.specs.IndexMap.{insert_entry}
use Rattle.cfg_base.specs.declared.symbol.TIdx.{TIdx}
use Rattle.cfg_numbered.proofs.Named.{fresh_in, or_left, or_right}

-- a list with one more
pub enumerate_more : {X : Type 0} (n : ℕ) (xs : List X) (x : X) → enumerate_from n (xs ++ x ∷ []) ≡ enumerate_from n xs ++ (n + length xs, x) ∷ []
enumerate_more n [] x = let e : n ≡ n + 0 = omega arith in ap (λ k. (k, x) ∷ []) e
enumerate_more n (y ∷ xs) x = let e : (n + 1) + length xs ≡ n + suc (length xs) = omega arith in ap (λ l. (n, y) ∷ l) (enumerate_more (n + 1) xs x ∙ ap (λ k. enumerate_from (n + 1) xs ++ (k, x) ∷ []) e)

module _ {S : Type 0} (number : S → ℕ) where
  abbrev view : Bor (List ℕ) × TIdx S → ℕ × List ℕ
  view e = (number e.1.0, e.0.now)

  -- what a look-up would find
  any_named : (q : List ℕ) (n : ℕ) (es : List (Bor (List ℕ) × TIdx S)) (xs : List (List ℕ)) → map view es ≡ enumerate_from n xs → list_any (λ (e : Bor (List ℕ) × TIdx S). bytes_eq q e.0.now) es ≡ list_any (bytes_eq q) xs
  any_named q n [] [] h = refl
  any_named q n [] (x ∷ xs) h = cc
  any_named q n (e ∷ es) [] h = cc
  any_named q n (e ∷ es) (x ∷ xs) h =
      let rest : list_any (λ (e : Bor (List ℕ) × TIdx S). bytes_eq q e.0.now) es ≡ list_any (bytes_eq q) xs = any_named q (n + 1) es xs cc in
      let name : e.0.now ≡ x = ap (λ (p : ℕ × List ℕ). p.1) (head_of_both h) in
      ap (λ b. bytes_eq q e.0.now || b) rest ∙ ap (λ m. bytes_eq q m || list_any (bytes_eq q) xs) name
    where
      head_of_both : {P : Type 0} {a b : P} {l m : List P} → (a ∷ l) ≡ (b ∷ m) → a ≡ b
      head_of_both e = cc

  inserted : (es : List (Bor (List ℕ) × TIdx S)) (k : Bor (List ℕ)) (t : TIdx S) → list_any (λ (e : Bor (List ℕ) × TIdx S). bytes_eq k.now e.0.now) es ≡ false → map view (insert_entry (λ (x y : Bor (List ℕ)). bytes_eq x.now y.now) es k t) ≡ map view es ++ view (k, t) ∷ []
  inserted [] k t h = refl
  inserted (e ∷ es) k t h =
      let apart : bytes_eq k.now e.0.now ≡ false = or_left (bytes_eq k.now e.0.now) (list_any (λ (e : Bor (List ℕ) × TIdx S). bytes_eq k.now e.0.now) es) h in
      let rest = inserted es k t (or_right (bytes_eq k.now e.0.now) (list_any (λ (e : Bor (List ℕ) × TIdx S). bytes_eq k.now e.0.now) es) h) in
      ap (λ (b : Bool). map view (if b then (e.0, t) ∷ es else e ∷ insert_entry (λ (x y : Bor (List ℕ)). bytes_eq x.now y.now) es k t)) apart
      ∙ ap (λ l. view e ∷ l) rest

  -- one more name
  pub place_more : (names : List (List ℕ)) (n : ℕ) (es : List (Bor (List ℕ) × TIdx S)) (k : Bor (List ℕ)) (t : TIdx S) → map view es ≡ enumerate_from 0 (take n names) → slice_get names n ≡ Some k.now → length (take n names) ≡ n → number t.0 ≡ n → take (n + 1) names ≡ take n names ++ k.now ∷ [] → ((j : ℕ) → slice_get names j ≡ Some k.now → j ≡ n)
      → map view (insert_entry (λ (x y : Bor (List ℕ)). bytes_eq x.now y.now) es k t) ≡ enumerate_from 0 (take (n + 1) names)
  place_more names n es k t h at len is more only =
      let free = fresh_in (λ (x : List ℕ). x) names n k.now (λ j lt e. let same = only j (plain (slice_get names j) e) in omega (arith, lt, same)) in
      let none : list_any (bytes_eq k.now) (take n names) ≡ false = ap (list_any (bytes_eq k.now)) (sym (map-same (take n names))) ∙ free in
      let zero_more : 0 + length (take n names) ≡ n = omega (arith, len) in
      inserted es k t (any_named k.now 0 es (take n names) h ∙ none)
      ∙ ap (λ l. l ++ view (k, t) ∷ []) h
      ∙ ap (λ m. enumerate_from 0 (take n names) ++ (m, k.now) ∷ []) (is ∙ sym zero_more)
      ∙ sym (enumerate_more 0 (take n names) k.now)
      ∙ ap (enumerate_from 0) (sym more)
    where
      map-same : (xs : List (List ℕ)) → map (λ (x : List ℕ). x) xs ≡ xs
      map-same [] = refl
      map-same (x ∷ xs) = ap (λ l. x ∷ l) (map-same xs)

      plain : (o : Option (List ℕ)) → option_map (λ (x : List ℕ). x) o ≡ Some k.now → o ≡ Some k.now
      plain None e = e
      plain (Some x) e = e
