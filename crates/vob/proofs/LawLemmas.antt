-- Laws of lists of truth values.
use Rattle.std.proofs.Common.{◌≡◌, ℕ, suc, zero, ◌+◌, ◌-◌, ◌*◌, ◌<◌, ◌≤◌, Bool, true, false, not, ◌&&◌, ◌||◌, cond, List, [], ◌∷◌, ◌++◌, length, get_or, take, replicate, map, refl, sym, ap, ap₂, ◌∙◌, subst, arith, set, inl, inr, ⊎_elim}
use Rattle.std.specs.Prelude.{Option, Some, None, ◌≢◌, ◌⊎◌, ◌↔◌, Contains, IsTrue, IsSome, option_to_list}
use Rattle.std.specs.List.{filter, fold, range_with_len}
use Rattle.std.specs.Iterator.{YieldsFirst, YieldsLast, Yields}
use Rattle.std.proofs.lemmas.List.{get_or_default, length-append, get_or-set_same, set-get_or, append-nil, append_assoc, take_at}
use Rattle.std.proofs.lemmas.Bool.{cases_lt}
use Rattle.std.specs.Cmp.{booleans_Decides}
use Rattle.std.specs.Cmp.Lexicographic.{pointwise, pointwise_decides}
use mathlib.Core.Bool.{beq, true≢false}
use Rattle.vob.specs.Bits.{bitwise, differs, count_true, Joins}
use Rattle.vob.specs.Packed.{blocks_for}
use Rattle.vob.specs.Walk.{has_item, indices_of}

pub turned_twice : (xs : List Bool) → map not (map not xs) ≡ xs
turned_twice [] = refl
turned_twice (true ∷ xs) = ap (λ (ys : List Bool). true ∷ ys) (turned_twice xs)
turned_twice (false ∷ xs) = ap (λ (ys : List Bool). false ∷ ys) (turned_twice xs)

pub no_difference : (xs : List Bool) → bitwise differs xs xs ≡ replicate (length xs) false
no_difference [] = refl
no_difference (true ∷ xs) = ap (λ (ys : List Bool). false ∷ ys) (no_difference xs)
no_difference (false ∷ xs) = ap (λ (ys : List Bool). false ∷ ys) (no_difference xs)

pub turned_and : (xs ys : List Bool) → map not (bitwise (λ x y. x && y) xs ys) ≡ bitwise (λ x y. x || y) (map not xs) (map not ys)
turned_and [] ys = refl
turned_and (x ∷ xs) [] = refl
turned_and (true ∷ xs) (y ∷ ys) = ap (λ (zs : List Bool). not y ∷ zs) (turned_and xs ys)
turned_and (false ∷ xs) (y ∷ ys) = ap (λ (zs : List Bool). true ∷ zs) (turned_and xs ys)

pub turned_or : (xs ys : List Bool) → map not (bitwise (λ x y. x || y) xs ys) ≡ bitwise (λ x y. x && y) (map not xs) (map not ys)
turned_or [] ys = refl
turned_or (x ∷ xs) [] = refl
turned_or (true ∷ xs) (y ∷ ys) = ap (λ (zs : List Bool). false ∷ zs) (turned_or xs ys)
turned_or (false ∷ xs) (y ∷ ys) = ap (λ (zs : List Bool). not y ∷ zs) (turned_or xs ys)

pub one_of_both : (xs : List Bool) (i : ℕ) → i < length xs → has_item false xs i ≡ not (has_item true xs i)
one_of_both xs i h = ap not (get_or_default xs i true false h)

counted_once : (b c : Bool) (x m : ℕ) (ys zs : List ℕ) → c ≡ not b → length ys + length zs ≡ m → length (cond b (x ∷ ys) ys) + length (cond c (x ∷ zs) zs) ≡ suc m
counted_once true true x m ys zs e h = cc
counted_once true false x m ys zs e h = omega arith
counted_once false true x m ys zs e h = omega arith
counted_once false false x m ys zs e h = cc

both_counts : (xs : List Bool) (n a : ℕ) → a + n ≤ length xs → length (filter (has_item true xs) (range_with_len a n)) + length (filter (has_item false xs) (range_with_len a n)) ≡ n
both_counts xs zero a h = omega arith
both_counts xs (suc n) a h =
    counted_once (has_item true xs a) (has_item false xs a) a n (filter (has_item true xs) (range_with_len (a + 1) n)) (filter (has_item false xs) (range_with_len (a + 1) n)) (one_of_both xs a (omega arith)) (both_counts xs n (a + 1) (omega arith))

none_counted : (xs : List Bool) (n a : ℕ) → n ≡ 0 → length (filter (has_item true xs) (range_with_len a n)) + length (filter (has_item false xs) (range_with_len a n)) ≡ n
none_counted xs zero a h = omega arith
none_counted xs (suc n) a h = cc

pub counts_sum : (xs : List Bool) (from to : ℕ) → to ≤ length xs → length (indices_of true xs from to) + length (indices_of false xs from to) ≡ to - from
counts_sum xs from to h = by_order (to - from) refl
  where
    by_order : (n : ℕ) → n ≡ to - from → length (filter (has_item true xs) (range_with_len from (to - from))) + length (filter (has_item false xs) (range_with_len from (to - from))) ≡ to - from
    by_order zero e = none_counted xs (to - from) from (sym e)
    by_order (suc n) e = both_counts xs (to - from) from (omega arith)

pub no_first : (t u : List ℕ) (r : Option ℕ) → t ≡ [] → YieldsFirst (λ (l : List ℕ). l) t r u → r ≡ None
no_first t u None e h = refl
no_first t u (Some x) e h = cc

append_some : (u : List ℕ) (x : ℕ) → [] ≡ u ++ x ∷ [] → ⊥
append_some [] x e = cc
append_some (y ∷ u) x e = cc

pub no_last : (t u : List ℕ) (r : Option ℕ) → t ≡ [] → YieldsLast (λ (l : List ℕ). l) t r u → r ≡ None
no_last t u None e h = refl
no_last t u (Some x) e h = absurd (append_some u x (sym e ∙ h))

pub pushed_all : (xs ys : List Bool) → fold (λ (zs : List Bool) (y : Bool). zs ++ y ∷ []) xs ys ≡ xs ++ ys
pushed_all xs [] = sym (append-nil xs)
pushed_all xs (y ∷ ys) = pushed_all (xs ++ y ∷ []) ys ∙ append_assoc xs (y ∷ []) ys

-- ---- what is left of a walk

abbrev rest : {X : Type 0} → List X → List X
rest [] = []
rest (x ∷ xs) = xs

abbrev steps_first : List ℕ → Option ℕ → List ℕ → Type 0
steps_first = YieldsFirst (λ (l : List ℕ). l)

abbrev steps_last : List ℕ → Option ℕ → List ℕ → Type 0
steps_last = YieldsLast (λ (l : List ℕ). l)

pub one_less : (s t : List ℕ) (x : ℕ) → s ≡ t ++ x ∷ [] → length s ≡ length t + 1
one_less s t x e = ap length e ∙ length-append t (x ∷ [])

pub drained : (xs s t u : List ℕ) → Yields steps_first s xs t → steps_first t None u → length xs ≡ length s
drained [] s t u y h = sym (ap length (y ∙ h.0))
drained (x ∷ xs) s t u (j, e, y) h = ap suc (drained xs j t u y h) ∙ sym (ap length e)

pub drained_back : (xs s t u : List ℕ) → Yields steps_last s xs t → steps_last t None u → length xs ≡ length s
drained_back [] s t u y h = sym (ap length (y ∙ h.0))
drained_back (x ∷ xs) s t u (j, e, y) h = omega (arith, drained_back xs j t u y h, one_less s j x e)

append_none : {X : Type 0} (u : List X) (x : X) → [] ≡ u ++ x ∷ [] → ⊥
append_none [] x e = cc
append_none (y ∷ u) x e = cc

push_same : {X : Type 0} (t u : List X) (a b : X) → t ++ a ∷ [] ≡ u ++ b ∷ [] → (a ≡ b) × (t ≡ u)
push_same [] [] a b e = (ap (λ l. get_or l 0 a) e, refl)
push_same [] (y ∷ u) a b e = absurd (append_none u b (ap rest e))
push_same (x ∷ t) [] a b e = absurd (append_none t a (sym (ap rest e)))
push_same (x ∷ t) (y ∷ u) a b e =
    let r = push_same t u a b (ap rest e) in (r.0, ap₂ (λ z l. z ∷ l) (ap (λ l. get_or l 0 x) e) r.1)

cons_none : {X : Type 0} (y : X) (u : List X) → [] ≡ y ∷ u → ⊥
cons_none y u e = cc

pub next_same : {X : Type 0} (s t u : List X) (a b : Option X) → YieldsFirst (λ (l : List X). l) s a t → YieldsFirst (λ (l : List X). l) s b u → (a ≡ b) × (t ≡ u)
next_same s t u None None h k = (refl, h.1 ∙ sym k.1)
next_same s t u None (Some y) h k = absurd (cons_none y u (sym h.0 ∙ k))
next_same s t u (Some x) None h k = absurd (cons_none x t (sym k.0 ∙ h))
next_same s t u (Some x) (Some y) h k = (ap (λ l. Some (get_or l 0 x)) (sym h ∙ k), ap rest (sym h ∙ k))

pub next_back_same : {X : Type 0} (s t u : List X) (a b : Option X) → YieldsLast (λ (l : List X). l) s a t → YieldsLast (λ (l : List X). l) s b u → (a ≡ b) × (t ≡ u)
next_back_same s t u None None h k = (refl, h.1 ∙ sym k.1)
next_back_same s t u None (Some y) h k = absurd (append_none u y (sym h.0 ∙ k))
next_back_same s t u (Some x) None h k = absurd (append_none t x (sym k.0 ∙ h))
next_back_same s t u (Some x) (Some y) h k = let r = push_same t u x y (sym h ∙ k) in (ap Some r.0, r.1)

pub pop_same : (old t u : List Bool) (a b : Option Bool) → old ≡ t ++ option_to_list a → old ≡ u ++ option_to_list b → (IsSome a ↔ (0 < length old)) → (IsSome b ↔ (0 < length old)) → (a ≡ b) × (t ≡ u)
pop_same old t u None None h k e f = (refl, sym (append-nil t) ∙ sym h ∙ k ∙ append-nil u)
pop_same old t u None (Some y) h k e f = absurd (true≢false (sym (e.1 (f.0 refl))))
pop_same old t u (Some x) None h k e f = absurd (true≢false (sym (f.1 (e.0 refl))))
pop_same old t u (Some x) (Some y) h k e f = let r = push_same t u x y (sym h ∙ k) in (ap Some r.0, r.1)

-- the bits of stored blocks, with unused ones after the items
pub stored_same : (w : ℕ) (a b all more : List Bool) → all ≡ a ++ replicate (blocks_for w (length a) * w - length a) false → more ≡ b ++ replicate (blocks_for w (length b) * w - length b) false → (a ≡ b) ↔ ((length a ≡ length b) × (all ≡ more))
stored_same w a b all more h k = (
  λ e. (ap length e, h ∙ ap (λ l. l ++ replicate (blocks_for w (length l) * w - length l) false) e ∙ sym k),
  λ r. sym (ap (take (length a)) h ∙ take_at a (replicate (blocks_for w (length a) * w - length a) false) (length a) refl)
      ∙ ap₂ take r.0 r.1
      ∙ (ap (take (length b)) k ∙ take_at b (replicate (blocks_for w (length b) * w - length b) false) (length b) refl),
)

-- ---- indices

here_or_later : (b : Bool) (x z : ℕ) (xs : List ℕ) → Contains (cond b (x ∷ xs) xs) z → ((b ≡ true) × (x ≡ z)) ⊎ Contains xs z
here_or_later true x z xs (zero, l, e) = inl (refl, e)
here_or_later true x z xs (suc k, l, e) = inr (k, omega arith, e)
here_or_later false x z xs c = inr c

later : (b : Bool) (x z : ℕ) (xs : List ℕ) → Contains xs z → Contains (cond b (x ∷ xs) xs) z
later true x z xs (k, l, e) = (suc k, omega arith, e)
later false x z xs c = c

at_head : (b : Bool) (x z : ℕ) (xs : List ℕ) → x ≡ z → b ≡ true → Contains (cond b (x ∷ xs) xs) z
at_head true x z xs e h = (0, omega arith, e)
at_head false x z xs e h = cc

filtered : (p : ℕ → Bool) (n a z : ℕ) → Contains (filter p (range_with_len a n)) z → (a ≤ z) × (z < a + n) × (p z ≡ true)
filtered p zero a z (k, l, e) = absurd (omega arith)
filtered p (suc n) a z c =
    ⊎_elim (λ h. let e = h.1 in (omega arith, omega arith, subst (λ y. p y ≡ true) h.1 h.0))
    (λ c. let r = filtered p n (a + 1) z c in let low = r.0 in let high = r.1 in (omega arith, omega arith, r.2))
    (here_or_later (p a) a z (filter p (range_with_len (a + 1) n)) c)

kept : (p : ℕ → Bool) (n a z : ℕ) → a ≤ z → z < a + n → p z ≡ true → Contains (filter p (range_with_len a n)) z
kept p zero a z l u h = absurd (omega arith)
kept p (suc n) a z l u h =
    elim (cases_lt a z) [
      | inl q ↦ later (p a) a z (filter p (range_with_len (a + 1) n)) (kept p n (a + 1) z (omega arith) (omega arith) h)
      | inr q ↦ let e : a ≡ z = omega arith in at_head (p a) a z (filter p (range_with_len (a + 1) n)) e (ap p e ∙ h)
    ]

not_true : (b : Bool) → not b ≡ true → b ≡ false
not_true true e = cc
not_true false e = refl

has_value : (v : Bool) (xs : List Bool) (z : ℕ) → z < length xs → (has_item v xs z ≡ true) ↔ (get_or xs z false ≡ v)
has_value true xs z h = (λ e. e, λ e. e)
has_value false xs z h =
    (λ e. sym (get_or_default xs z true false h) ∙ not_true (get_or xs z true) e, λ e. ap not (get_or_default xs z true false h ∙ e))

pub walk_exactly : (v : Bool) (xs : List Bool) (from to z : ℕ) → to ≤ length xs → Contains (indices_of v xs from to) z ↔ ((from ≤ z) × (z < to) × (get_or xs z false ≡ v))
walk_exactly v xs from to z h = (
  λ c. let r = filtered (has_item v xs) (to - from) from z c in
      let low = r.0 in
      let high = r.1 in
      (low, omega arith, (has_value v xs z (omega arith)).0 r.2),
  λ r. let low = r.0 in
      let high = r.1 in
      kept (has_item v xs) (to - from) from z low (omega arith) ((has_value v xs z (omega arith)).1 r.2),
)

pub set_or_not : (b : Bool) → (b ≡ true) ⊎ (b ≡ false)
set_or_not true = inl refl
set_or_not false = inr refl

-- ---- one item

same_as_not : (v : Bool) → v ≡ not v → ⊥
same_as_not true e = cc
same_as_not false e = cc

other_value : (x v : Bool) → (x ≡ v → ⊥) → x ≡ not v
other_value true true h = absurd (h refl)
other_value true false h = refl
other_value false true h = refl
other_value false false h = absurd (h refl)

pub set_changes : (xs : List Bool) (i : ℕ) (v : Bool) → i < length xs → (get_or xs i false ≡ not v) ↔ (set xs i v ≢ xs)
set_changes xs i v h = (
  λ g e. same_as_not v (sym (get_or-set_same xs i v false h) ∙ ap (λ (l : List Bool). get_or l i false) e ∙ g),
  λ n. other_value (get_or xs i false) v (λ e. n (ap (λ y. set xs i y) (sym e) ∙ set-get_or xs i false)),
)

-- ---- joins

count_le : (xs : List Bool) → count_true xs ≤ length xs
count_le [] = omega arith
count_le (true ∷ xs) = omega (arith, count_le xs)
count_le (false ∷ xs) = omega (arith, count_le xs)

abbrev join : List Bool → List Bool → List Bool
join = bitwise (λ x y. x || y)

length_join : (xs ys : List Bool) → length ys ≡ length xs → length (join xs ys) ≡ length xs
length_join [] ys e = refl
length_join (x ∷ xs) [] e = cc
length_join (x ∷ xs) (y ∷ ys) e = ap suc (length_join xs ys (omega arith))

-- a join that changes the list sets an item more
more_set : (xs ys : List Bool) → length ys ≡ length xs → cond (pointwise beq (join xs ys) xs) 0 1 + count_true xs ≤ count_true (join xs ys)
more_set [] ys e = omega arith
more_set (x ∷ xs) [] e = cc
more_set (true ∷ xs) (y ∷ ys) e = omega (arith, more_set xs ys (omega arith))
more_set (false ∷ xs) (false ∷ ys) e = omega (arith, more_set xs ys (omega arith))
more_set (false ∷ xs) (true ∷ ys) e = omega (arith, at_least (pointwise beq (join xs ys) xs) (count_true xs) (count_true (join xs ys)) (more_set xs ys (omega arith)))
  where
    at_least : (b : Bool) (m n : ℕ) → cond b 0 1 + m ≤ n → m ≤ n
    at_least true m n h = omega arith
    at_least false m n h = omega arith

grown : (flag : Bool) (xs ys : List Bool) → length ys ≡ length xs → (IsTrue flag ↔ (join xs ys ≢ xs)) → cond flag 1 0 + count_true xs ≤ count_true (join xs ys)
grown false xs ys e h = at_least (pointwise beq (join xs ys) xs) (count_true xs) (count_true (join xs ys)) (more_set xs ys e)
  where
    at_least : (b : Bool) (m n : ℕ) → cond b 0 1 + m ≤ n → 0 + m ≤ n
    at_least true m n h = omega arith
    at_least false m n h = omega arith
grown true xs ys e h =
    more (pointwise beq (join xs ys) xs) (count_true xs) (count_true (join xs ys)) (λ q. h.0 refl ((pointwise_decides booleans_Decides (join xs ys) xs).0 q)) (more_set xs ys e)
  where
    more : (b : Bool) (m n : ℕ) → (b ≡ true → ⊥) → cond b 0 1 + m ≤ n → 1 + m ≤ n
    more true m n f h = absurd (f refl)
    more false m n f h = h

flags_below : (xs : List Bool) (yss : List (List Bool)) (flags : List Bool) → Joins xs yss flags → count_true flags + count_true xs ≤ length xs
flags_below xs [] [] h = omega (arith, count_le xs)
flags_below xs [] (flag ∷ flags) h = absurd h
flags_below xs (ys ∷ yss) [] h = absurd h
flags_below xs (ys ∷ yss) (true ∷ flags) h =
    let l = length_join xs ys h.0 in
    omega (arith, flags_below (join xs ys) yss flags h.2, grown true xs ys h.0 h.1, l)
flags_below xs (ys ∷ yss) (false ∷ flags) h =
    let l = length_join xs ys h.0 in
    omega (arith, flags_below (join xs ys) yss flags h.2, grown false xs ys h.0 h.1, l)

pub changes_seldom : (xs : List Bool) (yss : List (List Bool)) (flags : List Bool) → Joins xs yss flags → count_true flags ≤ length xs
changes_seldom xs yss flags h = omega (arith, flags_below xs yss flags h)
