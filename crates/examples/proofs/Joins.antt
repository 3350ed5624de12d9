-- Lists that are joined to one in turn, one more after them.
use Rattle.std.proofs.Common.{◌≡◌, ◌≢◌, ◌↔◌, ℕ, ◌+◌, Bool, true, false, cond, ◌||◌, List, [], ◌∷◌, ◌++◌, length, IsTrue, refl, sym, subst, ap, ◌∙◌, arith}
use Rattle.vob.specs.Bits.{bitwise, count_true, Joins}

-- what the joins leave
abbrev pub left : List Bool → List (List Bool) → List Bool
left xs [] = xs
left xs (ys ∷ yss) = left (bitwise (λ x y. x || y) xs ys) yss

pub left-more : (xs : List Bool) (yss : List (List Bool)) (ys : List Bool) → left xs (yss ++ ys ∷ []) ≡ bitwise (λ x y. x || y) (left xs yss) ys
left-more xs [] ys = refl
left-more xs (zs ∷ yss) ys = left-more (bitwise (λ x y. x || y) xs zs) yss ys

pub joins-more : (xs : List Bool) (yss : List (List Bool)) (flags : List Bool) (ys : List Bool) (flag : Bool) → Joins xs yss flags → length ys ≡ length (left xs yss) → (IsTrue flag ↔ (bitwise (λ x y. x || y) (left xs yss) ys ≢ left xs yss)) → Joins xs (yss ++ ys ∷ []) (flags ++ flag ∷ [])
joins-more xs [] [] ys flag j e h = (e, h, tt)
joins-more xs [] (f ∷ flags) ys flag j e h = absurd j
joins-more xs (zs ∷ yss) [] ys flag j e h = absurd j
joins-more xs (zs ∷ yss) (f ∷ flags) ys flag j e h = (j.0, j.1, joins-more (bitwise (λ x y. x || y) xs zs) yss flags ys flag j.2 e h)

pub count-more : (flags : List Bool) (flag : Bool) → count_true (flags ++ flag ∷ []) ≡ count_true flags + cond flag 1 0
count-more [] true = refl
count-more [] false = refl
count-more (true ∷ flags) flag = let h = count-more flags flag in omega (arith, h)
count-more (false ∷ flags) flag = count-more flags flag

length-join : (xs ys : List Bool) → length ys ≡ length xs → length (bitwise (λ x y. x || y) xs ys) ≡ length xs
length-join [] ys e = refl
length-join (x ∷ xs) [] e = omega (arith, e)
length-join (x ∷ xs) (y ∷ ys) e = let h = length-join xs ys (omega (arith, e)) in omega (arith, h)

-- what a loop over the joins keeps, with a count of those that changed the list
abbrev pub Joined : List Bool → List Bool → ℕ → Type 0
Joined xs now count =
    (yss : List (List Bool)) × (flags : List Bool) × Joins xs yss flags × (left xs yss ≡ now) × (count_true flags ≡ count)

pub one_more : (xs now new ys : List Bool) (flag : Bool) (count : ℕ) → Joined xs now count → length now ≡ length xs → length ys ≡ length xs → new ≡ bitwise (λ x y. x || y) now ys → (IsTrue flag ↔ (new ≢ now)) → (length new ≡ length xs) × Joined xs new (count + cond flag 1 0)
one_more xs now new ys flag count (yss, flags, joins, is_left, is_count) e f is h =
    let P : List Bool → Type 0 = λ n. IsTrue flag ↔ (n ≢ now) in
    let Q : List Bool → Type 0 = λ n. IsTrue flag ↔ (bitwise (λ x y. x || y) n ys ≢ n) in
    let long : length ys ≡ length (left xs yss) = f ∙ sym e ∙ ap length (sym is_left) in (
      ap length is ∙ length-join now ys (f ∙ sym e) ∙ e,
      (
        yss ++ ys ∷ [],
        flags ++ flag ∷ [],
        joins-more xs yss flags ys flag joins long (subst Q (sym is_left) (subst P is h)),
        left-more xs yss ys ∙ ap (λ n. bitwise (λ x y. x || y) n ys) is_left ∙ sym is,
        count-more flags flag ∙ ap (λ n. n + cond flag 1 0) is_count,
      ),
    )
