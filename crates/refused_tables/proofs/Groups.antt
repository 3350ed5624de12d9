-- Neighbours that go together.
use Rattle.std.proofs.Common.{◌≡◌, ℕ, zero, suc, ◌<◌, ◌≤◌, Bool, true, false, cond, List, [], ◌∷◌, ◌++◌, length, get_or, take, drop, map, All, flat_map, sym, ap, ◌∙◌, refl, subst, arith}
use Rattle.std.proofs.lemmas.List.{get_or-map, length-map}
use Rattle.std.proofs.lemmas.List.Elements.{All-cons, All-nil, All-tail, All-head}
use Rattle.refused_tables.specs.Blocks.{groups, put_before}

module _ {X : Type 0} (same : X → X → Bool) where
  headed_case : (x y : X) (ys : List X) (gs : List (List X)) (b : Bool) → (g : List X) × (hs : List (List X)) × (cond b ((x ∷ y ∷ ys) ∷ gs) ((x ∷ []) ∷ (y ∷ ys) ∷ gs) ≡ (x ∷ g) ∷ hs)
  headed_case x y ys gs true = (y ∷ ys, gs, refl)
  headed_case x y ys gs false = ([], (y ∷ ys) ∷ gs, refl)

  headed : (x : X) (gs : List (List X)) → (g : List X) × (hs : List (List X)) × (put_before same x gs ≡ (x ∷ g) ∷ hs)
  headed x [] = ([], [], refl)
  headed x ([] ∷ gs) = ([], gs, refl)
  headed x ((y ∷ ys) ∷ gs) = headed_case x y ys gs (same x y)

  apart : (x y : X) (ys : List X) → same x y ≡ false → groups same (x ∷ y ∷ ys) ≡ (x ∷ []) ∷ groups same (y ∷ ys)
  apart x y ys e =
      let (g, hs, h) = headed y (groups same ys) in
      ap (put_before same x) h ∙ ap (λ b. cond b ((x ∷ y ∷ g) ∷ hs) ((x ∷ []) ∷ (y ∷ g) ∷ hs)) e ∙ ap (λ gs. (x ∷ []) ∷ gs) (sym h)

  joined : (x y : X) (ys g : List X) (hs : List (List X)) → same x y ≡ true → groups same (y ∷ ys) ≡ (y ∷ g) ∷ hs → groups same (x ∷ y ∷ ys) ≡ (x ∷ y ∷ g) ∷ hs
  joined x y ys g hs e h = ap (put_before same x) h ∙ ap (λ b. cond b ((x ∷ y ∷ g) ∷ hs) ((x ∷ []) ∷ (y ∷ g) ∷ hs)) e

  module _ (alike : (x y z : X) → same x y ≡ true → same x z ≡ same y z) where
    front : (x : X) (n : ℕ) (xs : List X) → ((d : X) (k : ℕ) → k < n → same x (get_or xs k d) ≡ true) → n ≤ length xs → ((d : X) → n < length xs → same x (get_or xs n d) ≡ false) → groups same (x ∷ xs) ≡ (x ∷ take n xs) ∷ groups same (drop n xs)
    front x zero [] all le fails = refl
    front x zero (y ∷ ys) all le fails = apart x y ys (fails y (omega arith))
    front x (suc n) [] all le fails = absurd (omega (arith, le))
    front x (suc n) (y ∷ ys) all le fails =
        let e = all y 0 (omega arith) in
        joined x y ys (take n ys) (groups same (drop n ys)) e (front y n ys (λ d k lt. sym (alike x y (get_or ys k d) e) ∙ all d (suc k) (omega (arith, lt))) (omega (arith, le)) (λ d lt. sym (alike x y (get_or ys n d) e) ∙ fails d (omega (arith, lt))))

    -- the first group: those that go with the first one, before one that doesn't
    pub first_group : (xs : List X) (n : ℕ) → 0 < n → n ≤ length xs → ((d : X) (k : ℕ) → 0 < k → k < n → same (get_or xs 0 d) (get_or xs k d) ≡ true) → ((d : X) → n < length xs → same (get_or xs 0 d) (get_or xs n d) ≡ false) → groups same xs ≡ take n xs ∷ groups same (drop n xs)
    first_group [] n some le all fails = absurd (omega (arith, some, le))
    first_group (x ∷ xs) zero some le all fails = absurd (omega (arith, some))
    first_group (x ∷ xs) (suc n) some le all fails = front x n xs (λ d k lt. all d (suc k) (omega arith) (omega (arith, lt))) (omega (arith, le)) (λ d lt. fails d (omega (arith, lt)))

  -- what all have, those of each group have
  module _ (P : X → Type 0) where
    put_case : (x y : X) (ys : List X) (gs : List (List X)) (b : Bool) → P x → All P (y ∷ ys) → All (All P) gs → All (All P) (cond b ((x ∷ y ∷ ys) ∷ gs) ((x ∷ []) ∷ (y ∷ ys) ∷ gs))
    put_case x y ys gs true p q r = All-cons (All P) (x ∷ y ∷ ys) gs (All-cons P x (y ∷ ys) p q) r
    put_case x y ys gs false p q r = All-cons (All P) (x ∷ []) ((y ∷ ys) ∷ gs) (All-cons P x [] p (All-nil P)) (All-cons (All P) (y ∷ ys) gs q r)

    put_all : (x : X) (gs : List (List X)) → P x → All (All P) gs → All (All P) (put_before same x gs)
    put_all x [] p q = All-cons (All P) (x ∷ []) [] (All-cons P x [] p (All-nil P)) (All-nil (All P))
    put_all x ([] ∷ gs) p q = All-cons (All P) (x ∷ []) gs (All-cons P x [] p (All-nil P)) (All-tail (All P) [] gs q)
    put_all x ((y ∷ ys) ∷ gs) p q = put_case x y ys gs (same x y) p (All-head (All P) (y ∷ ys) gs q) (All-tail (All P) (y ∷ ys) gs q)

    pub groups_all : (xs : List X) → All P xs → All (All P) (groups same xs)
    groups_all [] q = All-nil (All P)
    groups_all (x ∷ xs) q = put_all x (groups same xs) (All-head P x xs q) (groups_all xs (All-tail P x xs q))

pub all_from_map : {X Y : Type 0} (P : Y → Type 0) (f : X → Y) (xs : List X) → All P (map f xs) → All (λ x. P (f x)) xs
all_from_map P f xs h = λ k d lt.
    let long = length-map xs f in
    subst P (get_or-map f xs k d (f d) lt) (h k (f d) (omega (arith, lt, long)))
