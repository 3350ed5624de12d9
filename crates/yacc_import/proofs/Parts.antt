-- Marks of lists that are put together, and parts of a source.
use Rattle.std.proofs.Common.{◌≡◌, ℕ, suc, ◌+◌, ◌-◌, ◌<◌, ◌≤◌, List, [], ◌∷◌, ◌++◌, length, get_or, take, drop, map, slice_range, sym, ap, ◌∙◌, arith, take-append-drop, drop-drop, length-drop, length-take-le}
use Rattle.std.proofs.lemmas.List.{take_more, map_more, take_rest, length-map}
use Rattle.yacc_import.specs.Changes.{blank_of, mark, marks_of, blanks_of}

pub marks-append : (at : ℕ) (xs ys : List ℕ) → marks_of at (xs ++ ys) ≡ marks_of at xs ++ marks_of (at + length xs) ys
marks-append at [] ys = let e : at ≡ at + 0 = omega arith in ap (λ n. marks_of n ys) e
marks-append at (x ∷ xs) ys =
    let e : at + 1 + length xs ≡ at + suc (length xs) = omega arith in
    ap (λ l. mark at x ∷ l) (marks-append (at + 1) xs ys ∙ ap (λ n. marks_of (at + 1) xs ++ marks_of n ys) e)

pub marks_more : (at : ℕ) (xs : List ℕ) (i d : ℕ) → i < length xs → marks_of at (take (i + 1) xs) ≡ marks_of at (take i xs) ++ mark (at + i) (get_or xs i d) ∷ []
marks_more at xs i d h =
    let e : at + length (take i xs) ≡ at + i = ap (λ n. at + n) (length-take-le i xs (omega arith)) in
    ap (marks_of at) (take_more xs i d h) ∙ marks-append at (take i xs) (get_or xs i d ∷ []) ∙ ap (λ n. marks_of at (take i xs) ++ mark n (get_or xs i d) ∷ []) e

pub blanks_more : (at : ℕ) (xs : List ℕ) (i d : ℕ) → i < length xs → blanks_of at (take (i + 1) xs) ≡ blanks_of at (take i xs) ++ mark (at + i) (blank_of (get_or xs i d)) ∷ []
blanks_more at xs i d h =
    let e : at + length (map blank_of (take i xs)) ≡ at + i = ap (λ n. at + n) (length-map (take i xs) blank_of ∙ length-take-le i xs (omega arith)) in
    ap (marks_of at) (map_more blank_of xs i d h) ∙ marks-append at (map blank_of (take i xs)) (blank_of (get_or xs i d) ∷ []) ∙ ap (λ n. blanks_of at (take i xs) ++ mark n (blank_of (get_or xs i d)) ∷ []) e

-- a list from a place on is its part up to a later place, and the list from there on
pub part-drop : (xs : List ℕ) (a b : ℕ) → a ≤ b → drop a xs ≡ slice_range xs a b ++ drop b xs
part-drop xs a b h =
    let e : a + (b - a) ≡ b = omega arith in
    sym (take-append-drop (b - a) (drop a xs)) ∙ ap (λ l. slice_range xs a b ++ l) (drop-drop (b - a) a xs ∙ ap (λ n. drop n xs) e)

pub length-part : (xs : List ℕ) (a b : ℕ) → a ≤ b → b ≤ length xs → a + length (slice_range xs a b) ≡ b
length-part xs a b h k =
    let e : length (slice_range xs a b) ≡ b - a = length-take-le (b - a) (drop a xs) (omega (arith, length-drop a xs)) in
    omega (arith, e)

-- the last part of a list is all of the list from its place on
pub part_rest : (xs : List ℕ) (a : ℕ) → slice_range xs a (length xs) ≡ drop a xs
part_rest xs a = take_rest xs a

-- the marks of a list from a place on, in two parts
pub marks-part : (xs : List ℕ) (a b : ℕ) → a ≤ b → b ≤ length xs → marks_of a (drop a xs) ≡ marks_of a (slice_range xs a b) ++ marks_of b (drop b xs)
marks-part xs a b h k =
    ap (marks_of a) (part-drop xs a b h) ∙ marks-append a (slice_range xs a b) (drop b xs) ∙ ap (λ n. marks_of a (slice_range xs a b) ++ marks_of n (drop b xs)) (length-part xs a b h k)
