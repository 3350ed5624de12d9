-- How many items of a list are true.
use Rattle.std.proofs.Common.{◌≡◌, ℕ, zero, suc, ◌+◌, ◌<◌, ◌≤◌, Bool, true, false, List, [], ◌∷◌, ◌++◌, length, get_or, take, replicate, min, refl, ap, ◌∙◌, arith}
use Rattle.std.specs.List.{flat_map}
use Rattle.std.proofs.lemmas.Grind.{flat_map-append}
use Rattle.std.proofs.lemmas.List.{append-nil, take_more}
use Rattle.vob.specs.Bits.{count_true}

pub count-append : (xs ys : List Bool) → count_true (xs ++ ys) ≡ count_true xs + count_true ys
count-append [] ys = omega arith
count-append (true ∷ xs) ys = omega (arith, count-append xs ys)
count-append (false ∷ xs) ys = count-append xs ys

count-none : (n : ℕ) → count_true (replicate n false) ≡ 0
count-none zero = refl
count-none (suc n) = count-none n

-- false ones behind don't count
pub count-padded : (xs : List Bool) (n : ℕ) → count_true (xs ++ replicate n false) ≡ count_true xs
count-padded xs n = omega (arith, count-append xs (replicate n false), count-none n)

pub count-le : (xs : List Bool) → count_true xs ≤ length xs
count-le [] = omega arith
count-le (true ∷ xs) = omega (arith, count-le xs)
count-le (false ∷ xs) = omega (arith, count-le xs)

-- of one more block
pub count-more : {X : Type 0} (bits : X → List Bool) (xs : List X) (k : ℕ) (x : X) → k < length xs →
    count_true (flat_map bits (take (k + 1) xs)) ≡ count_true (flat_map bits (take k xs)) + count_true (bits (get_or xs k x))
count-more bits xs k x lt =
    let y = get_or xs k x in
    ap (λ ys. count_true (flat_map bits ys)) (take_more xs k x lt) ∙ ap count_true (flat_map-append bits (take k xs) (y ∷ [])) ∙
    count-append (flat_map bits (take k xs)) (bits y ++ []) ∙ ap (λ bs. count_true (flat_map bits (take k xs)) + count_true bs) (append-nil (bits y))

-- a sum that is cut is cut again
pub cut-more : (n k top : ℕ) → min (min n top + k) top ≡ min (n + k) top
cut-more n k top = omega arith

-- and cut at what it doesn't pass, it is whole
pub cut-whole : (n len top : ℕ) → n ≤ len → len ≤ top → min (min n top) len ≡ n
cut-whole n len top within fits = omega (arith, within, fits)
