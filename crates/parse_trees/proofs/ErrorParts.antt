-- The parts of what is shown of a sequence.
use Rattle.std.proofs.Common.{◌≡◌, ℕ, zero, suc, ◌+◌, ◌-◌, ◌<◌, List, [], ◌∷◌, ◌++◌, map, reverse, Bool, true, false, ◌==◌, if◌then◌else◌, length, take, drop, get_or, Some, refl, sym, ap, ◌∙◌, subst, arith}
use Rattle.std.proofs.lemmas.Grind.{common_steps}
use Rattle.std.specs.Prelude.{slice_get}
use Rattle.std.proofs.lemmas.List.{reverse-append}
use Rattle.parse_trees.specs.Lex.{Lex}
use Rattle.parse_trees.specs.declared.parse_repair.ParseRepair.{ParseRepair}
use Rattle.parse_trees.specs.Shown.{ShownEdit, inserted, deleted, shifted, shown_of}
use Rattle.parse_trees.specs.ErrorTexts.{Shown, put, left_out, taken, join, before_shown, shown_parts, sequence_lines, repairs_text, FitsInput, ShownFits, EditFits}
use Rattle.parse_trees.proofs.ListsAt.{drop_read}
use Rattle.std.specs.List.{repeat, AllByRecursion}
use Rattle.std.specs.Fmt.{decimal}
use Rattle.std.specs.Prelude.{codes, replicate}
use Rattle.std.proofs.lemmas.List.{length-map}

spaces_are : (n : ℕ) → repeat {A = ℕ} n (32 ∷ []) ≡ replicate n 32
spaces_are zero = refl
spaces_are (suc n) = ap (λ l. 32 ∷ l) (spaces_are n)

pub spaces_fill : (count n k : ℕ) (widest spaces : List ℕ) → widest ≡ decimal count → n ≡ length widest - k → spaces ≡ repeat {A = ℕ} n (32 ∷ []) → spaces ≡ replicate (length (decimal count) - k) 32
spaces_fill count n k widest spaces e m is = is ∙ spaces_are n ∙ ap (λ j. replicate j 32) (m ∙ ap (λ l. length l - k) e)

assoc : (xs ys zs : List ℕ) → (xs ++ ys) ++ zs ≡ xs ++ (ys ++ zs)
assoc [] ys zs = refl
assoc (x ∷ xs) ys zs = ap (λ l. x ∷ l) (assoc xs ys zs)

pub repairs_put : {X : Type 0} (f : X → List ℕ) (xs : List X) (old between new : List ℕ) → 0 < length xs → between ≡ old ++ codes " Repair sequences found:" → new ≡ between ++ sequence_lines (length xs) 1 (map f xs) → new ≡ old ++ repairs_text (map f xs)
repairs_put f [] old between new some e is = absurd (omega arith)
repairs_put f (x ∷ xs) old between new some e is =
    let n : suc (length xs) ≡ suc (length (map f xs)) = ap suc (sym (length-map xs f)) in
    is ∙ ap (λ l. l ++ sequence_lines (suc (length xs)) 1 (map f (x ∷ xs))) e
    ∙ assoc old (codes " Repair sequences found:") (sequence_lines (suc (length xs)) 1 (map f (x ∷ xs)))
    ∙ ap (λ j. old ++ (codes " Repair sequences found:" ++ sequence_lines j 1 (map f (x ∷ xs)))) n

map_push : {X Y : Type 0} (f : X → Y) (xs : List X) (x : X) → map f (xs ++ x ∷ []) ≡ map f xs ++ f x ∷ []
map_push f [] x = refl
map_push f (y ∷ xs) x = ap (λ l. f y ∷ l) (map_push f xs x)

-- the last of a list is the first from the end
pub seen_push : {X Y : Type 0} (f : X → Y) (xs xs' : List X) (x : X) → xs' ≡ xs ++ x ∷ [] → reverse (map f xs') ≡ f x ∷ reverse (map f xs)
seen_push f xs xs' x e = ap (λ l. reverse (map f l)) e ∙ ap reverse (map_push f xs x) ∙ reverse-append (map f xs) (f x ∷ [])

some_same : {X : Type 0} (x y : X) → Some x ≡ Some y → x ≡ y
some_same x y e = cc

-- a list by its last
pub last_seen : {X Y : Type 0} (f : X → Y) (xs : List X) (x : X) → Some x ≡ slice_get xs (length xs - 1) → (qs : List Y) × (reverse (map f xs) ≡ f x ∷ qs)
last_seen f [] x e = cc
last_seen f (y ∷ []) x e = ([], ap (λ z. f z ∷ []) (sym (some_same x y e)))
last_seen f (y ∷ z ∷ xs) x e =
    let n : length (y ∷ z ∷ xs) - 1 ≡ suc (length (z ∷ xs) - 1) = omega arith in
    let r = last_seen f (z ∷ xs) x (e ∙ ap (λ j. slice_get (y ∷ z ∷ xs) j) n) in
    (r.0 ++ f y ∷ [], reverse-append (f y ∷ []) (map f (z ∷ xs)) ∙ ap (λ l. l ++ f y ∷ []) r.1)

-- one step more in front
pub parts_more : {S L : Type 0} (number : S → ℕ) (lex : L → Lex) (repairs : List (ParseRepair L S)) (done : ℕ) (r : ParseRepair L S) (before after : List Shown) → done < length repairs → r ≡ get_or repairs (length repairs - 1 - done) r →
    before ≡ shown_parts lex (map (shown_of number) (drop (length repairs - done) repairs)) → after ≡ before_shown lex (shown_of number r) before → after ≡ shown_parts lex (map (shown_of number) (drop (length repairs - (done + 1)) repairs))
parts_more number lex repairs done r before after lt e so is =
    let k = length repairs - 1 - done in
    let n : length repairs - (done + 1) ≡ k = omega arith in
    let m : length repairs - done ≡ k + 1 = omega (arith, lt) in
    is ∙ ap (before_shown lex (shown_of number r)) (so ∙ ap (λ j. shown_parts lex (map (shown_of number) (drop j repairs))) m)
    ∙ ap (λ l. shown_parts lex (map (shown_of number) l)) (sym (drop_read repairs k r (omega (arith, lt)) e))
    ∙ ap (λ j. shown_parts lex (map (shown_of number) (drop j repairs))) (sym n)

-- what holds of all entries holds of one that was read
pub all_read : {X Y : Type 0} (P : Y → Type 0) (f : X → Y) (xs : List X) (k : ℕ) (x : X) → AllByRecursion P (map f xs) → k < length xs → x ≡ get_or xs k x → P (f x)
all_read P f [] k x all lt e = absurd (omega arith)
all_read P f (y ∷ xs) zero x all lt e = subst (λ z. P (f z)) (sym e) all.0
all_read P f (y ∷ xs) (suc k) x all lt e = all_read P f xs k x all.1 (omega (arith, lt)) e

take_next : {X : Type 0} (xs : List X) (k : ℕ) (x : X) → k < length xs → x ≡ get_or xs k x → take (k + 1) xs ≡ take k xs ++ x ∷ []
take_next [] k x lt e = absurd (omega arith)
take_next (y ∷ xs) zero x lt e = ap (λ z. z ∷ []) (sym e)
take_next (y ∷ xs) (suc k) x lt e =
    let n : suc k + 1 ≡ suc (k + 1) = omega arith in
    ap (λ j. take j (y ∷ xs)) n ∙ ap (λ l. y ∷ l) (take_next xs k x (omega (arith, lt)) e)

-- texts of entries, one more
pub texts_more : {X Y Z : Type 0} (bytes : Z → List ℕ) (f : Y → List ℕ) (h : X → Y) (xs : List X) (k : ℕ) (x : X) (ys ys' : List Z) (y : Z) → k < length xs → x ≡ get_or xs k x → map bytes ys ≡ map f (map h (take k xs)) → bytes y ≡ f (h x) →
    ys' ≡ ys ++ y ∷ [] → map bytes ys' ≡ map f (map h (take (k + 1) xs))
texts_more bytes f h xs k x ys ys' y lt e so is more =
    ap (map bytes) more ∙ map_push bytes ys y ∙ ap (λ l. l ++ bytes y ∷ []) so ∙ ap (λ b. map f (map h (take k xs)) ++ b ∷ []) is
    ∙ sym (map_push f (map h (take k xs)) (h x)) ∙ ap (map f) (sym (map_push h (take k xs) x)) ∙ ap (λ l. map f (map h l)) (sym (take_next xs k x lt e))

pub map_reverse : {X Y : Type 0} (f : X → Y) (xs : List X) → map f (reverse xs) ≡ reverse (map f xs)
map_reverse f [] = refl
map_reverse f (x ∷ xs) = ap (map f) (reverse-append (x ∷ []) xs) ∙ map_push f (reverse xs) x ∙ ap (λ l. l ++ f x ∷ []) (map_reverse f xs) ∙ sym (reverse-append (f x ∷ []) (map f xs))

join_fits : (input : List ℕ) (start end : ℕ) (ps : List Shown) → FitsInput input start end → AllByRecursion (ShownFits input) ps → AllByRecursion (ShownFits input) (join start end ps)
join_fits input start end [] fits all = (fits, tt)
join_fits input start end (put t ∷ ps) fits all = (fits, all)
join_fits input start end (taken from to ∷ ps) fits all = (fits, all)
join_fits input start end (left_out from to ∷ ps) fits all = by (from == end) (λ e. eq_of from end e)
  where
    eq_of : (j k : ℕ) → (j == k) ≡ true → j ≡ k
    eq_of j k e = grind (arith, common_steps)

    by : (b : Bool) → (b ≡ true → from ≡ end) → AllByRecursion (ShownFits input) (if b then left_out start to ∷ ps else left_out start end ∷ left_out from to ∷ ps)
    by true h =
        let same = h refl in
        let one = fits.ordered in
        let two = all.0.ordered in
        (record { ordered = omega (arith, one, two, same); starts = fits.starts; ends = all.0.ends }, all.1)
    by false h = (fits, all)

-- the parts of a sequence that fits
pub parts_fit : {L : Type 0} (input : List ℕ) (lex : L → Lex) (es : List (ShownEdit L)) → AllByRecursion (EditFits input lex) es → AllByRecursion (ShownFits input) (shown_parts lex es)
parts_fit input lex [] all = tt
parts_fit input lex (inserted t ∷ es) all = (tt, parts_fit input lex es all.1)
parts_fit input lex (deleted x ∷ es) all = join_fits input (lex x).places.start (lex x).places.end (shown_parts lex es) all.0 (parts_fit input lex es all.1)
parts_fit input lex (shifted x ∷ es) all = (all.0, parts_fit input lex es all.1)
