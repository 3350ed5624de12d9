-- Sets as bits: what joining, emptying and setting do, and how many bits are clear.
use Rattle.std.proofs.Common.{◌≡◌, ◌≢◌, ℕ, zero, suc, ◌+◌, ◌<◌, ◌≤◌, ◌⊎◌, inl, inr, ◌↔◌, Bool, true, false, not, cond, ◌||◌, List, [], ◌∷◌, length, get_or, set, replicate, refl, sym, ap, ◌∙◌, subst, arith}
use Rattle.std.specs.Prelude.{IsTrue}
use Rattle.std.proofs.lemmas.List.{get_or-set_same, get_or-set_other, length-set, get_or_past, length-replicate, get_or-replicate}
use Rattle.std.proofs.lemmas.List.Sums.{sum_by-cons, sum_by-set}
use Rattle.std.proofs.lemmas.Bool.{cases_eq, cases_lt, cases_Bool}
use Rattle.vob.specs.Bits.{bitwise}
use Rattle.vob.specs.Sets.{is_set, is_set_in, missing, missing_in, joined_to, HasAllOf, AreRows}
use Rattle.vob.specs.Passes.{PassStep}

abbrev pub join : List Bool → List Bool → List Bool
join xs ys = bitwise (λ x y. x || y) xs ys

pub length-bitwise : (op : Bool → Bool → Bool) (xs ys : List Bool) → length xs ≡ length ys → length (bitwise op xs ys) ≡ length xs
length-bitwise op [] ys e = refl
length-bitwise op (x ∷ xs) [] e = cc
length-bitwise op (x ∷ xs) (y ∷ ys) e = ap suc (length-bitwise op xs ys (omega arith))

never : false ≡ true → ⊥
never e = cc

pub joined : (xs ys : List Bool) (t : ℕ) → length xs ≡ length ys → IsTrue (is_set (join xs ys) t) ↔ (IsTrue (is_set xs t) ⊎ IsTrue (is_set ys t))
joined [] [] t e = (λ h. inl h, λ h. elim h [ inl x ↦ x | inr y ↦ y ])
joined [] (y ∷ ys) t e = cc
joined (x ∷ xs) [] t e = cc
joined (true ∷ xs) (y ∷ ys) zero e = (λ h. inl refl, λ h. refl)
joined (false ∷ xs) (y ∷ ys) zero e = (λ h. inr h, λ h. elim h [ inl x ↦ absurd (never x) | inr z ↦ z ])
joined (x ∷ xs) (y ∷ ys) (suc t) e = joined xs ys t (omega arith)

pub none_set : (n t : ℕ) → IsTrue (is_set (replicate n false) t) → ⊥
none_set zero t h = never h
none_set (suc n) zero h = never h
none_set (suc n) (suc t) h = none_set n t h

-- one number is put in
pub put_in : (xs : List Bool) (n t : ℕ) → n < length xs → IsTrue (is_set (set xs n true) t) ↔ (IsTrue (is_set xs t) ⊎ (n ≡ t))
put_in xs n t lt = elim (cases_eq t n) [ inl e ↦ here e | inr ne ↦ there ne ]
  where
    here : t ≡ n → IsTrue (is_set (set xs n true) t) ↔ (IsTrue (is_set xs t) ⊎ (n ≡ t))
    here e = (λ _. inr (sym e), λ _. subst (λ k. IsTrue (is_set (set xs n true) k)) (sym e) (get_or-set_same xs n true false lt))

    there : (t ≡ n → ⊥) → IsTrue (is_set (set xs n true) t) ↔ (IsTrue (is_set xs t) ⊎ (n ≡ t))
    there ne =
        let same = get_or-set_other xs n t true false ne in
        (λ h. inl (sym same ∙ h), λ h. elim h [ inl x ↦ same ∙ x | inr e ↦ absurd (ne (sym e)) ])

pub alone : (n m t : ℕ) → n < m → IsTrue (is_set (set (replicate m false) n true) t) ↔ (n ≡ t)
alone n m t lt =
    let h = put_in (replicate m false) n t (subst (λ k. n < k) (sym (length-replicate m false)) lt) in
    (λ x. elim (h.0 x) [ inl y ↦ absurd (none_set m t y) | inr e ↦ e ], λ e. h.1 (inr e))

-- ---- clear bits

missing_cons : (x : Bool) (xs : List Bool) → missing (x ∷ xs) ≡ cond (not x) 1 0 + missing xs
missing_cons x xs = sum_by-cons (λ b. cond (not b) 1 0) x xs

-- a list that is joined to is as it was, or has fewer clear bits
pub join_fills : (xs ys : List Bool) → length xs ≡ length ys → (join xs ys ≡ xs) ⊎ (missing (join xs ys) < missing xs)
join_fills [] [] e = inl refl
join_fills [] (y ∷ ys) e = cc
join_fills (x ∷ xs) [] e = cc
join_fills (x ∷ xs) (y ∷ ys) e = by x y (join_fills xs ys (omega arith))
  where
    by : (x y : Bool) → (join xs ys ≡ xs) ⊎ (missing (join xs ys) < missing xs) → (join (x ∷ xs) (y ∷ ys) ≡ x ∷ xs) ⊎ (missing (join (x ∷ xs) (y ∷ ys)) < missing (x ∷ xs))
    by true y (inl e) = inl (ap (λ l. true ∷ l) e)
    by true y (inr lt) = inr (omega (arith, missing_cons true xs, missing_cons true (join xs ys), lt))
    by false true (inl e) =
        let n = ap missing e in
        inr (omega (arith, missing_cons false xs, missing_cons true (join xs ys), n))
    by false true (inr lt) = inr (omega (arith, missing_cons false xs, missing_cons true (join xs ys), lt))
    by false false (inl e) = inl (ap (λ l. false ∷ l) e)
    by false false (inr lt) = inr (omega (arith, missing_cons false xs, missing_cons false (join xs ys), lt))

-- so is one into which a number is put that wasn't in it
pub put_fills : (xs : List Bool) (n : ℕ) → n < length xs → is_set xs n ≡ false → missing (set xs n true) < missing xs
put_fills xs n lt free =
    let e = sum_by-set (λ b. cond (not b) 1 0) xs n true false lt in
    let one : ◌≡◌ {A = ℕ} (cond (not (get_or xs n false)) 1 0) 1 = rw free refl in
    omega (arith, e, one)

pub put_again : (xs : List Bool) (n : ℕ) → n < length xs → is_set xs n ≡ true → set xs n true ≡ xs
put_again [] n lt h = cc
put_again (x ∷ xs) zero lt h = ap (λ b. b ∷ xs) (sym h)
put_again (x ∷ xs) (suc n) lt h = ap (λ l. x ∷ l) (put_again xs n (omega arith) h)

-- ---- rows

pub set_same : {X : Type 0} (xs : List X) (n : ℕ) (x d : X) → n < length xs → x ≡ get_or xs n d → set xs n x ≡ xs
set_same [] n x d lt e = cc
set_same (y ∷ xs) zero x d lt e = ap (λ z. z ∷ xs) e
set_same (y ∷ xs) (suc n) x d lt e = ap (λ l. y ∷ l) (set_same xs n x d (omega arith) e)

-- the sets after a row was set
pub row_set : (rows : List (List Bool)) (A B t : ℕ) (row : List Bool) → A < length rows → (B ≡ A) × (is_set_in (set rows A row) B t ≡ is_set row t) ⊎ ((B ≡ A → ⊥) × (is_set_in (set rows A row) B t ≡ is_set_in rows B t))
row_set rows A B t row lt = elim (cases_eq B A) [ inl e ↦ inl (e, subst (λ C. is_set_in (set rows A row) C t ≡ is_set row t) (sym e) (ap (λ l. is_set l t) (get_or-set_same rows A row [] lt))) | inr ne ↦ inr (ne, ap (λ l. is_set l t) (get_or-set_other rows A B row [] ne)) ]

pub rows_set : (n m : ℕ) (rows : List (List Bool)) (A : ℕ) (row : List Bool) → AreRows n m rows → length row ≡ m → AreRows n m (set rows A row)
rows_set n m rows A row r e = record { count = length-set rows A row ∙ r.count; width = λ B lt. width B lt }
  where
    width : (B : ℕ) → B < n → length (get_or (set rows A row) B []) ≡ m
    width B lt = elim (cases_eq B A) [ inl e' ↦ subst (λ C. length (get_or (set rows A row) C []) ≡ m) (sym e') (ap length (get_or-set_same rows A row [] (subst (λ k. A < k) (sym r.count) (subst (λ C. C < n) e' lt))) ∙ e) | inr ne ↦ ap length (get_or-set_other rows A B row [] ne) ∙ r.width B lt ]

-- a set of an empty row list holds nothing
pub within_rows : (n m : ℕ) (rows : List (List Bool)) (A t : ℕ) → AreRows n m rows → IsTrue (is_set_in rows A t) → (A < n) × (t < m)
within_rows n m rows A t r h = elim (cases_lt A n) [ inl lt ↦ (lt, inside lt) | inr le ↦ absurd (outside le) ]
  where
    outside : n ≤ A → ⊥
    outside le = never (sym (ap (λ l. is_set l t) (get_or_past rows A [] (omega (arith, r.count)))) ∙ h)

    inside : A < n → t < m
    inside lt = elim (cases_lt t m) [ inl x ↦ x | inr le ↦ absurd (never (sym (get_or_past (get_or rows A []) t false (omega (arith, r.width A lt, le))) ∙ h)) ]

-- what joining to a row does, where `changed` says whether the row changed
pub rows_step : (rows : List (List Bool)) (A : ℕ) (ys : List Bool) (changed : Bool) → A < length rows → length (get_or rows A []) ≡ length ys → IsTrue changed ↔ (join (get_or rows A []) ys ≢ get_or rows A []) → PassStep missing_in (HasAllOf A ys) rows (joined_to rows A ys) changed
rows_step rows A ys changed lt len tells = record { still = λ e. kept (same e); closed = λ e t h. has e t h; fewer = λ e. less e }
  where
    lost : missing (join (get_or rows A []) ys) ≡ missing (get_or rows A []) → missing (join (get_or rows A []) ys) < missing (get_or rows A []) → ⊥
    lost q fewer = omega (arith, q, fewer)

    differs : (changed ≡ false) → missing (join (get_or rows A []) ys) < missing (get_or rows A []) → ⊥
    differs e fewer = never (sym e ∙ tells.1 (λ q. lost (ap missing q) fewer))

    same : changed ≡ false → join (get_or rows A []) ys ≡ get_or rows A []
    same e = elim (join_fills (get_or rows A []) ys len) [ inl q ↦ q | inr fewer ↦ absurd (differs e fewer) ]

    kept : join (get_or rows A []) ys ≡ get_or rows A [] → joined_to rows A ys ≡ rows
    kept q = set_same rows A (join (get_or rows A []) ys) [] lt q

    has : changed ≡ false → (t : ℕ) → IsTrue (is_set ys t) → IsTrue (is_set_in rows A t)
    has e t h = subst (λ l. IsTrue (is_set l t)) (same e) ((joined (get_or rows A []) ys t len).1 (inr h))

    less : changed ≡ true → missing_in (joined_to rows A ys) < missing_in rows
    less e = elim (join_fills (get_or rows A []) ys len) [ inl q ↦ absurd (tells.0 e q) | inr fewer ↦ omega (arith, sum_by-set missing rows A (join (get_or rows A []) ys) [] lt, fewer) ]

-- putting one number into a set
pub put_step : (xs : List Bool) (n : ℕ) (changed : Bool) → n < length xs → IsTrue changed ↔ (is_set xs n ≡ false) → PassStep missing (λ l. IsTrue (is_set l n)) xs (set xs n true) changed
put_step xs n changed lt tells = record { still = λ e. put_again xs n lt (there e); closed = λ e. there e; fewer = λ e. put_fills xs n lt (tells.0 e) }
  where
    there : changed ≡ false → is_set xs n ≡ true
    there e = elim (cases_Bool (is_set xs n)) [ inl h ↦ h | inr h ↦ absurd (never (sym e ∙ tells.1 h)) ]

pub none_in : (n m A t : ℕ) → IsTrue (is_set_in (replicate n (replicate m false)) A t) → ⊥
none_in zero m A t h = never h
none_in (suc n) m zero t h = none_set m t h
none_in (suc n) m (suc A) t h = none_in n m A t h

pub empty_sized : (n m : ℕ) (rows : List (List Bool)) → rows ≡ replicate n (replicate m false) → AreRows n m rows
empty_sized n m rows e = record {
  count = ap length e ∙ length-replicate n (replicate m false);
  width = λ A lt. ap (λ l. length (get_or l A [])) e ∙ ap length (get_or-replicate n A (replicate m false) [] lt) ∙ length-replicate m false;
}

-- a set that was emptied and joined to another
pub copied : (old mid row new : List Bool) → length old ≡ length row → mid ≡ replicate (length old) false → new ≡ join mid row → (length new ≡ length row) × ((t : ℕ) → IsTrue (is_set new t) ↔ IsTrue (is_set row t))
copied old mid row new len m e =
    let same : length mid ≡ length row = ap length m ∙ length-replicate (length old) false ∙ len in
    (ap length e ∙ length-bitwise (λ x y. x || y) mid row same ∙ same, λ t. at same t)
  where
    at : length mid ≡ length row → (t : ℕ) → IsTrue (is_set new t) ↔ IsTrue (is_set row t)
    at same t =
        let j = joined mid row t same in (
          λ h. elim (j.0 (subst (λ l. IsTrue (is_set l t)) e h)) [ inl x ↦ absurd (none_set (length old) t (subst (λ l. IsTrue (is_set l t)) m x)) | inr y ↦ y ],
          λ h. subst (λ l. IsTrue (is_set l t)) (sym e) (j.1 (inr h)),
        )
