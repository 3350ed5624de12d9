-- The least production by which the cells of a row reduce.
use Rattle.std.proofs.Common.{◌≡◌, ℕ, zero, suc, ◌+◌, ◌-◌, ◌<◌, ◌≤◌, inl, inr, Bool, true, false, cond, ◌||◌, List, [], ◌∷◌, ◌++◌, length, get_or, take, map, filter, Option, refl, sym, ap, ◌∙◌, subst, arith, eq-eqb, ne_eqb}
use Rattle.std.specs.List.{range_with_len, list_any}
use Rattle.std.proofs.lemmas.List.{map_more}
use Rattle.lr_theory.specs.Automaton.{Action}
use Rattle.state_table.specs.declared.cells.Action.{Action as TableAction}
use Rattle.state_table.specs.Rows.{at_of}
use Rattle.state_table.specs.CellViews.{action_of, cells_of}
use Rattle.state_table.specs.SparseRows.{or_error, IsCellRow, full_cells}
use Rattle.state_table.specs.TableValues.{TableValue, is_reduce_by, reduces_in, reduced_from, reduced_productions}
use Rattle.state_table.specs.LeastReduced.{IsLesser, IsLeastReduced}
use Rattle.state_table.proofs.KeptNumbers.{kept_numbers, filter_alike}

-- one cell more
or_assoc : (a b c : Bool) → (a || (b || c)) ≡ ((a || b) || c)
or_assoc true b c = refl
or_assoc false b c = refl

or_false : (b : Bool) → (b || false) ≡ b
or_false true = refl
or_false false = refl

or_true : (b : Bool) → (b || true) ≡ true
or_true true = refl
or_true false = refl

reduces_put : (row : List (ℕ × Action)) (x : ℕ × Action) (q : ℕ) → reduces_in (row ++ x ∷ []) q ≡ (reduces_in row q || is_reduce_by q x.1)
reduces_put [] x q = or_false (is_reduce_by q x.1)
reduces_put (y ∷ row) x q = ap (λ b. is_reduce_by q y.1 || b) (reduces_put row x q) ∙ or_assoc (is_reduce_by q y.1) (reduces_in row q) (is_reduce_by q x.1)

reduces_self : (p : ℕ) → is_reduce_by p (Action.reduce p) ≡ true
reduces_self p = eq-eqb p p refl

reduces_other : (q p : ℕ) → (q ≡ p → ⊥) → is_reduce_by q (Action.reduce p) ≡ false
reduces_other q p ne = ne_eqb q p ne

pub least_begun : (from end : ℕ) → from ≤ end → IsLeastReduced [] from end end
least_begun from end le = record { above = le; within = omega arith; none = λ q l u. refl; here = λ h. absurd (omega (arith, h)) }

pub least_put : (row : List (ℕ × Action)) (x : ℕ × Action) (from end p r : ℕ) → IsLeastReduced row from end p → IsLesser x.1 from p r → IsLeastReduced (row ++ x ∷ []) from end r
least_put row x from end p r is (inl h) =
    let e = h.0 in
    subst (λ (k : ℕ). IsLeastReduced (row ++ x ∷ []) from end k) (sym e) (record {
      above = is.above;
      within = is.within;
      none = λ q l u. reduces_put row x q ∙ (ap (λ b. b || is_reduce_by q x.1) (is.none q l u) ∙ h.1 q l u);
      here = λ w. reduces_put row x p ∙ ap (λ b. b || is_reduce_by p x.1) (is.here w);
    })
least_put row x from end p r is (inr h) =
    let le = h.0 in
    let lt = h.1 in
    let w = is.within in
    record {
      above = le;
      within = omega (arith, lt, w);
      none = λ q l u. reduces_put row x q ∙ (ap (λ b. b || is_reduce_by q x.1) (is.none q l (omega (arith, u, lt))) ∙ (ap (λ (a : Action). is_reduce_by q a) h.2 ∙ reduces_other q r (λ e. omega (arith, e, u))));
      here = λ _. reduces_put row x r ∙ (ap (λ (a : Action). reduces_in row r || is_reduce_by r a) h.2 ∙ (ap (λ b. reduces_in row r || b) (reduces_self r) ∙ or_true (reduces_in row r)));
    }

pub least_more : {S : Type 0} (number : S → ℕ) (row : List (ℕ × TableAction S)) (i : ℕ) (x : ℕ × TableAction S) (from end p r : ℕ) → i < length row → x ≡ get_or row i x →
    IsLeastReduced (cells_of number (take i row)) from end p → IsLesser (action_of number x.1) from p r → IsLeastReduced (cells_of number (take (i + 1) row)) from end r
least_more {S} number row i x from end p r lt at is less =
    let f : ℕ × TableAction S → ℕ × Action = λ e. (e.0, action_of number e.1) in
    let more = map_more f row i x lt ∙ ap (λ (y : ℕ × TableAction S). cells_of number (take i row) ++ f y ∷ []) (sym at) in
    subst (λ (l : List (ℕ × Action)). IsLeastReduced l from end r) (sym more) (least_put (cells_of number (take i row)) (f x) from end p r is less)

-- the productions that are left, from the least one on
skip : (row : List (ℕ × Action)) (k a n : ℕ) → k ≤ n → ((q : ℕ) → a ≤ q → q < a + k → reduces_in row q ≡ false) → reduced_from row a n ≡ reduced_from row (a + k) (n - k)
skip row zero a n le h = let e : a ≡ a + 0 = omega arith in let f : n ≡ n - 0 = omega arith in ap (λ (m : ℕ). reduced_from row m n) e ∙ ap (λ (m : ℕ). reduced_from row (a + 0) m) f
skip row (suc k) a zero le h = absurd (omega (arith, le))
skip row (suc k) a (suc n) le h =
    let e : a + 1 + k ≡ a + suc k = omega arith in
    let f : n - k ≡ suc n - suc k = omega arith in
    ap (λ (b : Bool). cond b (a ∷ reduced_from row (a + 1) n) (reduced_from row (a + 1) n)) (h a (omega arith) (omega arith))
    ∙ (skip row k (a + 1) n (omega (arith, le)) (λ q l u. h q (omega (arith, l)) (omega (arith, u)))
    ∙ (ap (λ (m : ℕ). reduced_from row m (n - k)) e ∙ ap (λ (m : ℕ). reduced_from row (a + suc k) m) f))

pub left_from : (row : List (ℕ × Action)) (from end p : ℕ) → IsLeastReduced row from end p → reduced_from row from (end - from) ≡ reduced_from row p (end - p)
left_from row from end p is =
    let a = is.above in
    let w = is.within in
    let e : from + (p - from) ≡ p = omega (arith, a) in
    let f : end - from - (p - from) ≡ end - p = omega (arith, a, w) in
    skip row (p - from) from (end - from) (omega (arith, a, w)) (λ q l u. is.none q l (omega (arith, a, u)))
    ∙ (ap (λ (m : ℕ). reduced_from row m (end - from - (p - from))) e ∙ ap (λ (m : ℕ). reduced_from row p m) f)

pub left_none : (row : List (ℕ × Action)) (from end p : ℕ) → IsLeastReduced row from end p → p ≡ end → reduced_from row from (end - from) ≡ []
left_none row from end p is e =
    let f : end - p ≡ 0 = omega (arith, e) in
    left_from row from end p is ∙ ap (λ (m : ℕ). reduced_from row p m) f

pub left_some : (row : List (ℕ × Action)) (from end p : ℕ) → IsLeastReduced row from end p → p < end → reduced_from row from (end - from) ≡ p ∷ reduced_from row (p + 1) (end - (p + 1))
left_some row from end p is lt =
    let f : end - p ≡ suc (end - (p + 1)) = omega (arith, lt) in
    let k = end - (p + 1) in
    left_from row from end p is
    ∙ (ap (λ (m : ℕ). reduced_from row p m) f
    ∙ ap (λ (b : Bool). cond b (p ∷ reduced_from row (p + 1) k) (reduced_from row (p + 1) k)) (is.here lt))

-- a full row has a reduction where the kept one has it
is_some_of : {X : Type 0} → List X → Bool
is_some_of [] = false
is_some_of (x ∷ xs) = true

any_cond : {X : Type 0} (b : Bool) (x : X) (o : Bool) (l : List X) → o ≡ is_some_of l → (b || o) ≡ is_some_of (cond b (x ∷ l) l)
unfolding is_some_of
any_cond true x o l e = refl
any_cond false x o l e = e

any_map : {X Y : Type 0} (p : Y → Bool) (f : X → Y) (xs : List X) → list_any p (map f xs) ≡ is_some_of (filter (λ x. p (f x)) xs)
unfolding is_some_of
any_map p f [] = refl
any_map p f (x ∷ xs) = any_cond (p (f x)) x (list_any p (map f xs)) (filter (λ x. p (f x)) xs) (any_map p f xs)

any_is : {X : Type 0} (p : X → Bool) (xs : List X) → list_any p xs ≡ is_some_of (filter p xs)
unfolding is_some_of
any_is p [] = refl
any_is p (x ∷ xs) = any_cond (p x) x (list_any p xs) (filter p xs) (any_is p xs)

some_map : {X Y : Type 0} (f : X → Y) (xs : List X) → is_some_of (map f xs) ≡ is_some_of xs
unfolding is_some_of
some_map f [] = refl
some_map f (x ∷ xs) = refl

pub reduces_alike : (n : ℕ) (row : List (ℕ × Action)) (p : ℕ) → IsCellRow n row → list_any (is_reduce_by p) (full_cells n row) ≡ reduces_in row p
reduces_alike n row p is =
    let P : Option Action → Bool = λ o. is_reduce_by p (or_error o) in
    let keeps : ℕ × Action → Bool = λ e. is_reduce_by p e.1 in
    any_map (is_reduce_by p) (λ (t : ℕ). or_error (at_of row t)) (range_with_len 0 n)
    ∙ (ap (λ (l : List ℕ). is_some_of l) (kept_numbers P refl n 0 row is.rises (λ i d w. omega arith) (λ i d w. (let b = is.below i d w in omega (arith, b))))
    ∙ (some_map (λ (e : ℕ × Action). e.0) (filter keeps row) ∙ sym (any_is keeps row)))

pub productions_alike : (v : TableValue) (s : ℕ) (row : List (ℕ × Action)) → get_or v.actions s [] ≡ full_cells v.tokens row → IsCellRow v.tokens row → reduced_from row 0 v.productions ≡ reduced_productions v s
productions_alike v s row whole is =
    filter_alike (λ p. reduces_in row p) (λ p. list_any (is_reduce_by p) (get_or v.actions s [])) v.productions 0
    (λ p le lt. sym (ap (λ (l : List Action). list_any (is_reduce_by p) l) whole ∙ reduces_alike v.tokens row p is))
