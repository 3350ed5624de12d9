-- Blocks of one width, spelled out one after another.
use Rattle.std.proofs.Common.{◌≡◌, ℕ, suc, zero, ◌+◌, ◌-◌, ◌*◌, ◌/◌, ◌%◌, ◌<◌, ◌≤◌, Bool, false, List, [], ◌∷◌, ◌++◌, length, get_or, set, take, drop, sym, ap, ap₂, ◌∙◌, arith}
use Rattle.std.specs.List.{flat_map}
use Rattle.std.proofs.lemmas.List.{length-append, length-take, take_at, drop_at, get_or_append_left, get_or-append-add, set-append_left, set-append_right, take-append-drop}
use Rattle.std.proofs.lemmas.List.Concat.{flat_map-append}
use Rattle.std.proofs.Math.Nat.{div-add-mod'}

module _ {X : Type 0} (f : X → List Bool) (w : ℕ) (each : (x : X) → length (f x) ≡ w) where
  pub length-spelled : (xs : List X) → length (flat_map f xs) ≡ length xs * w
  length-spelled [] = omega arith
  length-spelled (x ∷ xs) = length-append (f x) (flat_map f xs) ∙ ap₂ (λ m n. m + n) (each x) (length-spelled xs) ∙ (omega arith)

  -- an item of the block k
  pub get_or-spelled : (xs : List X) (k j : ℕ) (d : X) → k < length xs → j < w → get_or (flat_map f xs) (k * w + j) false ≡ get_or (f (get_or xs k d)) j false
  get_or-spelled [] k j d p q = absurd (omega arith)
  get_or-spelled (x ∷ xs) zero j d p q =
      let e : zero * w + j ≡ j = omega arith in
      let within : j < length (f x) = omega (arith, each x) in
      rw e (get_or_append_left (f x) (flat_map f xs) false j within)
  get_or-spelled (x ∷ xs) (suc k) j d p q =
      let e : suc k * w + j ≡ length (f x) + (k * w + j) = omega (arith, each x) in
      rw e (get_or-append-add (f x) (flat_map f xs) (k * w + j) false ∙ get_or-spelled xs k j d (omega arith) q)

  -- another item of the block k
  pub set-spelled : (xs : List X) (k j : ℕ) (d b : X) (v : Bool) → k < length xs → j < w → f b ≡ set (f (get_or xs k d)) j v → flat_map f (set xs k b) ≡ set (flat_map f xs) (k * w + j) v
  set-spelled [] k j d b v p q h = absurd (omega arith)
  set-spelled (x ∷ xs) zero j d b v p q h =
      let e : zero * w + j ≡ j = omega arith in
      let within : j < length (f x) = omega (arith, each x) in
      rw e (ap (λ (ys : List Bool). ys ++ flat_map f xs) h ∙ sym (set-append_left (f x) (flat_map f xs) j v within))
  set-spelled (x ∷ xs) (suc k) j d b v p q h =
      let n : ℕ = suc k * w + j in
      let low : w ≤ suc k * w + j = omega arith in
      let e : suc k * w + j - w ≡ k * w + j = omega arith in
      ap (λ (ys : List Bool). f x ++ ys) (set-spelled xs k j d b v (omega arith) q h)
      ∙ sym (set-append_right (f x) (flat_map f xs) w (suc k * w + j) v (each x) low ∙ ap (λ i. f x ++ set (flat_map f xs) i v) e)

  -- the first blocks, and the rest
  pub take-spelled : (k : ℕ) (xs : List X) → k ≤ length xs → take (k * w) (flat_map f xs) ≡ flat_map f (take k xs)
  take-spelled k xs h =
      let e : flat_map f xs ≡ flat_map f (take k xs) ++ flat_map f (drop k xs) = ap (flat_map f) (sym (take-append-drop k xs)) ∙ flat_map-append f (take k xs) (drop k xs) in
      let n : length (flat_map f (take k xs)) ≡ k * w = length-spelled (take k xs) ∙ ap (λ m. m * w) (length-take k xs ∙ (omega arith)) in
      ap (take (k * w)) e ∙ take_at (flat_map f (take k xs)) (flat_map f (drop k xs)) (k * w) n

  pub drop-spelled : (k : ℕ) (xs : List X) → k ≤ length xs → drop (k * w) (flat_map f xs) ≡ flat_map f (drop k xs)
  drop-spelled k xs h =
      let e : flat_map f xs ≡ flat_map f (take k xs) ++ flat_map f (drop k xs) = ap (flat_map f) (sym (take-append-drop k xs)) ∙ flat_map-append f (take k xs) (drop k xs) in
      let n : length (flat_map f (take k xs)) ≡ k * w = length-spelled (take k xs) ∙ ap (λ m. m * w) (length-take k xs ∙ (omega arith)) in
      ap (drop (k * w)) e ∙ drop_at (flat_map f (take k xs)) (flat_map f (drop k xs)) (k * w) n

  -- at an index i
  pub get_or-spelled_at : (xs : List X) (i : ℕ) (d : X) → 0 < w → i / w < length xs → get_or (flat_map f xs) i false ≡ get_or (f (get_or xs (i / w) d)) (i % w) false
  get_or-spelled_at xs i d p h =
      ap (λ n. get_or (flat_map f xs) n false) (sym (div-add-mod' i w)) ∙ get_or-spelled xs (i / w) (i % w) d h (omega arith)

  pub set-spelled_at : (xs : List X) (i : ℕ) (d b : X) (v : Bool) → 0 < w → i / w < length xs → f b ≡ set (f (get_or xs (i / w) d)) (i % w) v → flat_map f (set xs (i / w) b) ≡ set (flat_map f xs) i v
  set-spelled_at xs i d b v p h e =
      set-spelled xs (i / w) (i % w) d b v h (omega arith) e ∙ ap (λ n. set (flat_map f xs) n v) (div-add-mod' i w)
