-- What a lexer's list reads as, one item after another, and lexemes that fit.
use Rattle.std.proofs.Common.{◌≡◌, ℕ, zero, suc, ◌<◌, ◌≤◌, ◌+◌, List, [], ◌∷◌, ◌++◌, length, map, take, drop, get_or, None, Some, Ok, Err, refl, sym, ap, ◌∙◌, ⊎_elim, subst, arith}
use Rattle.std.specs.Prelude.{slice_get, Result}
use Rattle.std.proofs.lemmas.Bool.{cases_lt}
use Rattle.std.proofs.lemmas.List.{take-append-drop, take_all}
use Rattle.cfg_theory.specs.Grammar.{Grammar, end_token}
use Rattle.parse_trees.specs.Lex.{Lex}
use Rattle.parse_trees.specs.Lexemes.{IsFirstLexError, AreGoodBelow, AreItems, lexemes_of, AreLexemes}
use Rattle.parse_trees.specs.LexemeViews.{IsOrderedAt}

-- what is so below n and at n
pub with_next : (P : ℕ → Type 0) (n : ℕ) → ((j : ℕ) → j < n → P j) → P n → (j : ℕ) → j < n + 1 → P j
with_next P n below at j lt = ⊎_elim (λ h. below j h) (λ h. let e : n ≡ j = omega (arith, h, lt) in subst P e at) (cases_lt j n)

drop_at : {X : Type 0} (xs : List X) (k : ℕ) (d x : X) → k < length xs → get_or xs k d ≡ x → drop k xs ≡ x ∷ drop (k + 1) xs
drop_at [] k d x lt e = absurd (omega (arith, lt))
drop_at (y ∷ ys) zero d x lt e = ap (λ z. z ∷ ys) e
drop_at (y ∷ ys) (suc k) d x lt e =
    let n : suc k + 1 ≡ suc (k + 1) = omega arith in
    drop_at ys k d x (omega (arith, lt)) e ∙ ap (λ j. x ∷ drop j (y ∷ ys)) (sym n)

-- the first k items are lexemes, and the next one is a fault
pub first_fault : {L E : Type 0} (items : List (Result L E)) (k : ℕ) (before : List L) (e : E) (d : Result L E) → take k items ≡ map Ok before → k < length items → get_or items k d ≡ Err e → IsFirstLexError items e
first_fault items k before e d read lt at = record {
  before = before;
  after = drop (k + 1) items;
  is = sym (take-append-drop k items) ∙ ap (λ xs. xs ++ drop k items) read ∙ ap (λ ys. map Ok before ++ ys) (drop_at items k d (Err e) lt at);
}

fault_is_none : {L E : Type 0} (f : E) (items : List (Result L E)) (xs : List L) → Err f ∷ items ≡ map Ok xs → ⊥
fault_is_none f items [] e = cc
fault_is_none f items (x ∷ xs) e = cc

-- one more item is a lexeme
pub one_more : {L E : Type 0} (items : List (Result L E)) (k : ℕ) (x : L) (d : Result L E) → AreItems (take k items) (lexemes_of (take k items)) → k < length items → get_or items k d ≡ Ok x → AreItems (take (k + 1) items) (lexemes_of (take (k + 1) items))
one_more [] k x d read lt e = absurd (omega (arith, lt))
one_more (Ok y ∷ items) zero x d read lt e = refl
one_more (Err f ∷ items) zero x d read lt e = absurd cc
one_more (Ok y ∷ items) (suc k) x d read lt e =
    let h : AreItems (take k items) (lexemes_of (take k items)) = ap (λ l. drop 1 l) read in
    let n : suc k + 1 ≡ suc (k + 1) = omega arith in
    subst (λ j. AreItems (take j (Ok y ∷ items)) (lexemes_of (take j (Ok y ∷ items)))) (sym n) (ap (λ l. Ok y ∷ l) (one_more items k x d h (omega (arith, lt)) e))
one_more (Err f ∷ items) (suc k) x d read lt e = absurd (fault_is_none f (take k items) (lexemes_of (take k items)) read)

-- no item is left
pub all_are : {L E : Type 0} (items : List (Result L E)) (k : ℕ) → AreItems (take k items) (lexemes_of (take k items)) → length items ≤ k → AreItems items (lexemes_of items)
all_are items k read le = subst (λ l. AreItems l (lexemes_of l)) (take_all k items le) read

-- an index before the end isn't past it
pub not_past : {X : Type 0} (xs : List X) (k : ℕ) → slice_get xs k ≡ None → k < length xs → ⊥
not_past [] k e lt = omega (arith, lt)
not_past (x ∷ xs) zero e lt = cc
not_past (x ∷ xs) (suc k) e lt = not_past xs k e (omega (arith, lt))

module _ {L : Type 0} (G : Grammar) (lex : L → Lex) (xs : List L) (good : AreGoodBelow (end_token G) lex xs (length xs)) (ordered : (j : ℕ) → j < length xs → IsOrderedAt lex xs j) where
  within : (xs : List L) (k : ℕ) (x : L) → slice_get xs k ≡ Some x → k < length xs
  within [] k x e = cc
  within (y ∷ ys) zero x e = omega arith
  within (y ∷ ys) (suc k) x e = let h = within ys k x e in omega (arith, h)

  inside : (k : ℕ) (x : L) → slice_get xs k ≡ Some x → (lex x).token < end_token G
  inside k x e = ⊎_elim (λ h. h) (λ h. absurd ((good k (within xs k x e)).inside (record { lexeme = x; at = e; outside = h }))) (cases_lt (lex x).token (end_token G))

  some_at : (ys : List L) (k : ℕ) (x : L) → slice_get ys (suc k) ≡ Some x → (y : L) × (slice_get ys k ≡ Some y)
  some_at [] k x e = cc
  some_at (y ∷ ys) zero x e = (y, refl)
  some_at (y ∷ ys) (suc k) x e = some_at ys k x e

  step : (k : ℕ) (y x : L) → slice_get xs k ≡ Some y → slice_get xs (suc k) ≡ Some x → (lex y).places.start ≤ (lex x).places.start
  step k y x f e = ⊎_elim
      (λ h. absurd ((good (suc k) (within xs (suc k) x e)).ascends (record { index = k; behind = refl; front = y; lexeme = x; front_at = f; at = e; decreases = h })))
      (λ h. h)
      (cases_lt (lex x).places.start (lex y).places.start)

  same : (y x : L) (o : slice_get xs 0 ≡ slice_get xs 0) → Some y ≡ Some x → (lex y).places.start ≤ (lex x).places.start
  same y x o e = let h : y ≡ x = cc in let g = ap (λ (z : L). (lex z).places.start) h in omega (arith, g)

  ascend : (j k : ℕ) (y x : L) → j ≤ k → slice_get xs j ≡ Some y → slice_get xs k ≡ Some x → (lex y).places.start ≤ (lex x).places.start
  ascend j zero y x le f e = let z : j ≡ 0 = omega (arith, le) in same y x refl (sym f ∙ ap (slice_get xs) z ∙ e)
  ascend j (suc k) y x le f e =
      let w = some_at xs k x e in
      ⊎_elim
      (λ h. let a = ascend j k y w.0 (omega (arith, h)) f w.1 in let b = step k w.0 x w.1 e in omega (arith, a, b))
      (λ h. let z : j ≡ suc k = omega (arith, le, h) in same y x refl (sym f ∙ ap (slice_get xs) z ∙ e))
      (cases_lt j (suc k))

  pub are_lexemes : AreLexemes G lex xs
  are_lexemes = record { inside = inside; ascend = ascend; ordered = λ k x e. ordered k (within xs k x e) x e }
