-- The pieces of an array.
use Rattle.std.proofs.Common.{◌≡◌, ◌+◌, ◌<◌, ◌^◌, arith, ℕ, List, [], ◌∷◌, ◌++◌, length, ap, ◌∙◌, sym, length-append}
use Rattle.std.specs.Borrow.{Bor}
use Rattle.std.proofs.lemmas.Grind.{flat_map-append}
use Rattle.cfg_base.specs.Pieces.{PiecesFit, text_of}
use Rattle.std.specs.Iterator.{HoldsAlong, Yields}
use Rattle.std.specs.Array.Iter.{array_into_iter_items, array_steps}
use Rattle.std.specs.declared.array.IntoIter.{IntoIter}

-- what an array's iterator gave stands before what is left
array_yields : {A : Type 0} {n : ℕ} (s : IntoIter A n) (xs : List A) (t : IntoIter A n) → Yields array_steps s xs t → array_into_iter_items s ≡ xs ++ array_into_iter_items t
array_yields s [] t e = ap array_into_iter_items e
array_yields {A} s (x ∷ xs) t r = r.1 ∙ ap (λ (ys : List A). x ∷ ys) (array_yields r.0 xs t r.2)

length-text_of-append : (xs ys : List (Bor (List ℕ))) → length (text_of (xs ++ ys)) ≡ length (text_of xs) + length (text_of ys)
length-text_of-append xs ys = ap length (flat_map-append (λ (p : Bor (List ℕ)). p.now) xs ys) ∙ length-append (text_of xs) (text_of ys)

-- the pieces of an array fit along its walk, if they fit together
pub array_fits : {n : ℕ} (s : IntoIter (Bor (List ℕ)) n) (pieces : List (Bor (List ℕ))) → array_into_iter_items s ≡ pieces → length (text_of pieces) < 2 ^ 64 → HoldsAlong array_steps s PiecesFit
array_fits s pieces e fits xs t run =
    let whole : length (text_of pieces) ≡ length (text_of xs) + length (text_of (array_into_iter_items t)) = ap (λ ps. length (text_of ps)) (sym e ∙ array_yields s xs t run) ∙ length-text_of-append xs (array_into_iter_items t) in
    omega (arith, whole, fits)
