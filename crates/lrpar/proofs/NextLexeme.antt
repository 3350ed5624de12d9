-- The next lexeme of a run, at the head of a list or none.
use Rattle.std.proofs.Common.{◌≡◌, ℕ, zero, suc, ◌+◌, ◌<◌, ◌≤◌, List, [], ◌∷◌, length, drop, Option, Some, None, refl, sym, ap, ◌∙◌, subst, arith}
use Rattle.std.specs.Prelude.{slice_get}
use Rattle.cfg_theory.specs.Grammar.{Grammar, end_token}
use Rattle.lr_theory.specs.Machine.{next_or}
use Rattle.parse_trees.specs.Lex.{Lex, token_by}
use Rattle.lrpar.specs.Made.{next_start, end_from, end_of}
use Rattle.lrpar.specs.Run.{token_of, NextOf, NextInside, StartsBefore, StartsByNext, StartsShifted}
use Rattle.parse_trees.specs.Lexemes.{AreLexemes}

pub next_is : {L : Type 0} (tok : L → ℕ) (e : ℕ) (next : Option L) (xs : List L) → NextOf next xs → next_or tok e xs ≡ token_of tok e next
next_is tok e None xs h = ap (next_or tok e) h
next_is tok e (Some x) xs h = ap (next_or tok e) h

-- its token is one of the grammar
pub token_within : {L : Type 0} (G : Grammar) (lex : L → Lex) (next : Option L) → NextInside G lex next → token_of (token_by lex) (end_token G) next ≤ end_token G
token_within G lex None h = omega arith
token_within G lex (Some x) h = omega (arith, h)

-- none is of a token before the end alone
pub end_is_none : {L : Type 0} (G : Grammar) (lex : L → Lex) (next : Option L) → NextInside G lex next → token_of (token_by lex) (end_token G) next ≡ end_token G → next ≡ None
end_is_none G lex None h e = refl
end_is_none G lex (Some x) h e = absurd (omega (arith, h, e))

-- the lexeme at a place
pub at_place : {L : Type 0} (xs : List L) (k : ℕ) → NextOf (slice_get xs k) (drop k xs)
at_place [] zero = refl
at_place [] (suc k) = refl
at_place (x ∷ xs) zero = refl
at_place (x ∷ xs) (suc k) = at_place xs k

pub drop_one : {L : Type 0} (xs : List L) (k : ℕ) → drop 1 (drop k xs) ≡ drop (k + 1) xs
drop_one [] zero = refl
drop_one [] (suc k) = let n : suc k + 1 ≡ suc (k + 1) = omega arith in sym (ap (λ j. drop j []) n)
drop_one (x ∷ xs) zero = refl
drop_one (x ∷ xs) (suc k) =
    let n : suc k + 1 ≡ suc (k + 1) = omega arith in
    drop_one xs k ∙ sym (ap (λ j. drop j (x ∷ xs)) n)

pub some_within : {L : Type 0} (xs : List L) (k : ℕ) (x : L) → slice_get xs k ≡ Some x → k < length xs
some_within [] k x e = cc
some_within (y ∷ xs) zero x e = omega arith
some_within (y ∷ xs) (suc k) x e = let lt = some_within xs k x e in omega (arith, lt)

pub at_next : {L : Type 0} (next : Option L) (xs ys : List L) (k : ℕ) → next ≡ slice_get xs k → ys ≡ drop k xs → NextOf next ys
at_next next xs ys k e h = subst (NextOf next) (sym h) (subst (λ o. NextOf o (drop k xs)) (sym e) (at_place xs k))

-- the lexeme at a place begins what is left there
pub drop_from : {L : Type 0} (xs : List L) (k : ℕ) (x : L) → slice_get xs k ≡ Some x → drop k xs ≡ x ∷ drop (k + 1) xs
drop_from xs k x e = at_next (Some x) xs (drop k xs) k (sym e) refl ∙ ap (λ l. x ∷ l) (drop_one xs k)

-- past the end nothing is left
pub drop_past : {L : Type 0} (xs : List L) (k : ℕ) → slice_get xs k ≡ None → drop k xs ≡ []
drop_past xs k e = at_next None xs (drop k xs) k (sym e) refl

pub inside_at : {L : Type 0} (G : Grammar) (lex : L → Lex) (xs : List L) → AreLexemes G lex xs → (next : Option L) (k : ℕ) → next ≡ slice_get xs k → NextInside G lex next
inside_at G lex xs are None k e = tt
inside_at G lex xs are (Some x) k e = are.inside k x (sym e)

starts_of : {L : Type 0} (lex : L → Lex) (starts : ℕ → Type 0) (end : ℕ) (next : Option L) (xs : List L) → NextOf next xs → starts (next_start lex end xs) → StartsBefore lex starts next
starts_of lex starts end None xs h up = tt
starts_of lex starts end (Some x) xs h up = subst (λ l. starts (next_start lex end l)) h up

pub starts_at : {L : Type 0} (lex : L → Lex) (starts : ℕ → Type 0) (xs : List L) (next : Option L) (k : ℕ) → next ≡ slice_get xs k → StartsByNext lex starts xs k → StartsBefore lex starts next
starts_at lex starts xs next k e up = starts_of lex starts (end_of lex xs) next (drop k xs) (at_next next xs (drop k xs) k e refl) up

pub starts_here : {L : Type 0} (lex : L → Lex) (starts : ℕ → Type 0) (xs : List L) (k : ℕ) (x : L) → slice_get xs k ≡ Some x → StartsByNext lex starts xs k → starts (lex x).places.start
starts_here lex starts xs k x e up = starts_at lex starts xs (Some x) k (sym e) up

pub shifted_within : {L : Type 0} (lex : L → Lex) (starts : ℕ → Type 0) (xs : List L) (next : Option L) (k : ℕ) → next ≡ slice_get xs k → StartsShifted lex starts next → k < length xs
shifted_within lex starts xs None k e h = absurd h
shifted_within lex starts xs (Some x) k e h = some_within xs k x (sym e)

-- the last one ends where the list does
last_end : {L : Type 0} (lex : L → Lex) (end : ℕ) (xs : List L) (k : ℕ) (x : L) → slice_get xs k ≡ Some x → drop (suc k) xs ≡ [] → end_from lex end xs ≡ (lex x).places.end
last_end lex end [] k x e h = cc
last_end lex end (y ∷ ys) zero x e h =
    let same : y ≡ x = cc in
    ap (end_from lex (lex y).places.end) h ∙ ap (λ z. (lex z).places.end) same
last_end lex end (y ∷ ys) (suc k) x e h = last_end lex (lex y).places.end ys k x e h

first_at : {L : Type 0} (xs : List L) (k : ℕ) (y : L) (ys : List L) → drop k xs ≡ y ∷ ys → slice_get xs k ≡ Some y
first_at [] zero y ys e = cc
first_at [] (suc k) y ys e = cc
first_at (x ∷ xs) zero y ys e = cc
first_at (x ∷ xs) (suc k) y ys e = first_at xs k y ys e

module _ {L : Type 0} (G : Grammar) (lex : L → Lex) (starts : ℕ → Type 0) (later : (m n : ℕ) → starts m → m ≤ n → starts n) (xs : List L) (are : AreLexemes G lex xs) (k : ℕ) where
  starts_from : (x : L) → slice_get xs k ≡ Some x → starts (lex x).places.start → (zs : List L) → drop (suc k) xs ≡ zs → starts (next_start lex (end_of lex xs) zs)
  starts_from x at up [] e =
      let last = last_end lex 0 xs k x at e in
      let le = are.ordered k x at in
      later (lex x).places.start (end_of lex xs) up (omega (arith, le, last))
  starts_from x at up (z ∷ zs) e = later (lex x).places.start (lex z).places.start up (are.ascend k (suc k) x z (omega arith) at (first_at xs (suc k) z zs e))

  -- behind a lexeme
  pub starts_behind : (next : Option L) → next ≡ slice_get xs k → StartsShifted lex starts next → StartsByNext lex starts xs (k + 1)
  starts_behind None e h = absurd h
  starts_behind (Some x) e h =
      let n : suc k ≡ k + 1 = omega arith in
      subst (StartsByNext lex starts xs) n (starts_from x (sym e) h (drop (suc k) xs) refl)

pub next_on : {L : Type 0} (next : Option L) (xs ys : List L) → ys ≡ xs → NextOf next xs → NextOf next ys
next_on next xs ys e h = subst (NextOf next) (sym e) h
