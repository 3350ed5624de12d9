-- What a state shifts is among what it does.
use Rattle.std.proofs.Common.{◌≡◌, ℕ, inl, inr, Bool, true, false, cond, filter, List, [], ◌∷◌, refl, subst}
use Rattle.std.specs.Prelude.{Contains}
use Rattle.std.specs.List.{range_with_len}
use Rattle.lr_theory.specs.Automaton.{Action}
use Rattle.table_theory.proofs.CellLists.{contains_nil, contains_head, contains_tail, contains_cases}
use Rattle.state_table.specs.TableValues.{TableValue, action_at, is_filled, is_shift, filled_tokens, shifted_tokens}

kept_first : {X : Type 0} (b : Bool) (x : X) (xs : List X) → b ≡ true → Contains (cond b (x ∷ xs) xs) x
kept_first true x xs e = contains_head x xs
kept_first false x xs e = cc

kept_later : {X : Type 0} (b : Bool) (x y : X) (xs : List X) → Contains xs y → Contains (cond b (x ∷ xs) xs) y
kept_later true x y xs c = contains_tail x y xs c
kept_later false x y xs c = c

kept_more : {X : Type 0} (a b : Bool) (x y : X) (xs ys : List X) → (a ≡ true → b ≡ true) → (Contains xs y → Contains ys y) → Contains (cond a (x ∷ xs) xs) y → Contains (cond b (x ∷ ys) ys) y
kept_more true b x y xs ys h more c = elim (contains_cases x y xs c) [
  | inl e ↦ subst (Contains (cond b (x ∷ ys) ys)) e (kept_first b x ys (h refl))
  | inr d ↦ kept_later b x y ys (more d)
]
kept_more false b x y xs ys h more c = kept_later b x y ys (more c)

-- a weaker test keeps more
pub filter_more : {X : Type 0} (p q : X → Bool) → ((x : X) → p x ≡ true → q x ≡ true) → (xs : List X) (y : X) → Contains (filter p xs) y → Contains (filter q xs) y
filter_more p q h [] y c = absurd (contains_nil y c)
filter_more p q h (x ∷ xs) y c = kept_more (p x) (q x) x y (filter p xs) (filter q xs) (h x) (filter_more p q h xs y) c

shift_is_filled : (a : Action) → is_shift a ≡ true → is_filled a ≡ true
shift_is_filled (Action.shift k) h = refl
shift_is_filled (Action.reduce p) h = refl
shift_is_filled Action.accept h = refl
shift_is_filled Action.error h = h

pub shifted_are_filled : (t : TableValue) (s u : ℕ) → Contains (shifted_tokens t s) u → Contains (filled_tokens t s) u
shifted_are_filled t s u c = filter_more (λ k. is_shift (action_at t s k)) (λ k. is_filled (action_at t s k)) (λ k h. shift_is_filled (action_at t s k) h) (range_with_len 0 t.tokens) u c
