-- What stands in a list.
use Rattle.std.proofs.Common.{◌≡◌, ℕ, zero, suc, ◌<◌, Bool, true, false, ◌||◌, List, [], ◌∷◌, ◌++◌, length, get_or, slice_get, Some, refl, sym, ap, ◌∙◌, subst, arith, true≢false, ◌⊎◌, inl, inr}
use Rattle.std.specs.List.{Contains, list_any, flat_map}
use Rattle.std.proofs.lemmas.List.Elements.{Contains-append_left, Contains-append_right, Contains-append_cases}
use Rattle.std.proofs.lemmas.Option.{slice_get_within, get_or_from_slice_get, slice_get-get_or}

module _ {A : Type 0} where
  pub member_cases : (y : A) (ys : List A) (x : A) → Contains (y ∷ ys) x → (y ≡ x) ⊎ Contains ys x
  member_cases y ys x h = at h.0 h.1 h.2
    where
      at : (k : ℕ) → k < length (y ∷ ys) → get_or (y ∷ ys) k x ≡ x → (y ≡ x) ⊎ Contains ys x
      at zero l e = inl e
      at (suc k) l e = inr (k, omega arith, e)

  pub member_first : (y : A) (ys : List A) (x : A) → y ≡ x → Contains (y ∷ ys) x
  member_first y ys x e = (0, omega arith, e)

  pub member_later : (y : A) (ys : List A) (x : A) → Contains ys x → Contains (y ∷ ys) x
  member_later y ys x h = Contains-append_right (y ∷ []) ys x h

  pub member_none : (x : A) → Contains [] x → ⊥
  member_none x h = let l : h.0 < length {A = A} [] = h.1 in omega arith

  pub member_at : (xs : List A) (i : ℕ) (x : A) → slice_get xs i ≡ Some x → Contains xs x
  member_at xs i x e = (i, slice_get_within xs i x e, get_or_from_slice_get xs i x x e)

  pub at_member : (xs : List A) (x : A) → Contains xs x → (i : ℕ) × (i < length xs) × (slice_get xs i ≡ Some x)
  at_member xs x h = (h.0, h.1, slice_get-get_or xs h.0 x h.1 ∙ ap Some h.2)

  -- one that passes a test
  pub any_gives : (p : A → Bool) (xs : List A) → list_any p xs ≡ true → (x : A) × Contains xs x × (p x ≡ true)
  any_gives p [] h = absurd (true≢false (sym h))
  any_gives p (x ∷ xs) h = by (p x) refl (any_gives p xs) h
    where
      by : (b : Bool) → p x ≡ b → (list_any p xs ≡ true → (y : A) × Contains xs y × (p y ≡ true)) → (b || list_any p xs) ≡ true → (y : A) × Contains (x ∷ xs) y × (p y ≡ true)
      by true e rest t = (x, member_first x xs x refl, e)
      by false e rest t = let r = rest t in (r.0, member_later x xs r.0 r.1, r.2)

  pub gives_any : (p : A → Bool) (xs : List A) (x : A) → Contains xs x → p x ≡ true → list_any p xs ≡ true
  gives_any p [] x h t = absurd (member_none x h)
  gives_any p (y ∷ ys) x h t = by (p y) refl (member_cases y ys x h) (λ g. gives_any p ys x g t)
    where
      by : (b : Bool) → p y ≡ b → (y ≡ x) ⊎ Contains ys x → (Contains ys x → list_any p ys ≡ true) → (b || list_any p ys) ≡ true
      by true e c rest = refl
      by false e (inl same) rest = absurd (true≢false (sym t ∙ ap p (sym same) ∙ e))
      by false e (inr g) rest = rest g

module _ {A B : Type 0} (f : A → List B) where
  pub flat_gives : (xs : List A) (b : B) → Contains (flat_map f xs) b → (a : A) × Contains xs a × Contains (f a) b
  flat_gives [] b h = absurd (member_none b h)
  flat_gives (x ∷ xs) b h = by (Contains-append_cases (f x) (flat_map f xs) b h) (flat_gives xs b)
    where
      by : Contains (f x) b ⊎ Contains (flat_map f xs) b → (Contains (flat_map f xs) b → (a : A) × Contains xs a × Contains (f a) b) → (a : A) × Contains (x ∷ xs) a × Contains (f a) b
      by (inl g) rest = (x, member_first x xs x refl, g)
      by (inr g) rest = let r = rest g in (r.0, member_later x xs r.0 r.1, r.2)

  pub gives_flat : (xs : List A) (b : B) (a : A) → Contains xs a → Contains (f a) b → Contains (flat_map f xs) b
  gives_flat [] b a h g = absurd (member_none a h)
  gives_flat (x ∷ xs) b a h g = by (member_cases x xs a h) (λ k. gives_flat xs b a k g)
    where
      by : (x ≡ a) ⊎ Contains xs a → (Contains xs a → Contains (flat_map f xs) b) → Contains (f x ++ flat_map f xs) b
      by (inl same) rest = Contains-append_left (f x) (flat_map f xs) b (subst (λ t. Contains (f t) b) (sym same) g)
      by (inr k) rest = Contains-append_right (f x) (flat_map f xs) b (rest k)
