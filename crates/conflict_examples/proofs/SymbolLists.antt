-- Lists of symbols, symbol by symbol.
use Rattle.std.proofs.Common.{arith, ◌≡◌, ℕ, zero, suc, ◌+◌, ◌-◌, ◌<◌, ◌≤◌, List, [], ◌∷◌, ◌++◌, length, map, take, drop, reverse, get_or, Some, refl, sym, ap, ◌∙◌, subst, append_assoc, append-nil}
use Rattle.std.proofs.lemmas.List.{map-append, get_or-map, length-map, take_more, take_more_same, reverse-append, length-reverse, get_or-reverse, take-append-drop, length-drop}
use Rattle.cfg_theory.specs.Grammar.{Sym}
use Rattle.lr_theory.specs.Graph.{Graph, Leads}

module _ {A B : Type 0} (f : A → B) where
  pub map_at : (xs : List A) (k : ℕ) (x : A) (d : B) → k < length xs → x ≡ get_or xs k x → get_or (map f xs) k d ≡ f x
  map_at xs k x d lt e = get_or-map f xs k x d lt ∙ ap f (sym e)

  pub none_is : (xs : List A) → length xs ≡ 0 → map f xs ≡ []
  none_is [] e = refl
  none_is (x ∷ xs) e = absurd (omega (arith, e))

  pub same_more : (xs ys : List A) (k : ℕ) (x y : A) → k < length xs → length xs ≡ length ys → x ≡ get_or xs k x → y ≡ get_or ys k y → f x ≡ f y →
      take k (map f xs) ≡ take k (map f ys) → take (k + 1) (map f xs) ≡ take (k + 1) (map f ys)
  same_more xs ys k x y lt same a b e before =
      let left : k < length (map f xs) = omega (arith, lt, length-map xs f) in
      let right : k < length (map f ys) = omega (arith, lt, same, length-map ys f) in
      let other : k < length ys = omega (arith, lt, same) in
      take_more_same (map f xs) (map f ys) k (f x) left right before (map_at xs k x (f x) lt a ∙ e ∙ sym (map_at ys k y (f x) other b))

pub all_taken : {A : Type 0} (xs : List A) (k : ℕ) → length xs ≤ k → take k xs ≡ xs
all_taken [] zero h = refl
all_taken [] (suc k) h = refl
all_taken (x ∷ xs) zero h = absurd (omega (arith, h))
all_taken (x ∷ xs) (suc k) h = ap (λ l. x ∷ l) (all_taken xs k (omega (arith, h)))

pub one_is : {A : Type 0} (xs : List A) (x : A) → length xs ≡ 1 → x ≡ get_or xs 0 x → xs ≡ x ∷ []
one_is [] x e at = absurd (omega (arith, e))
one_is (y ∷ []) x e at = ap (λ z. z ∷ []) (sym at)
one_is (y ∷ z ∷ xs) x e at = absurd (omega (arith, e))

pub same_all : {A B : Type 0} (f : A → B) (xs ys : List A) (k : ℕ) → length xs ≤ k → length xs ≡ length ys → take k (map f xs) ≡ take k (map f ys) → map f xs ≡ map f ys
same_all f xs ys k h same e =
    sym (all_taken (map f xs) k (omega (arith, h, length-map xs f))) ∙ e ∙ all_taken (map f ys) k (omega (arith, h, same, length-map ys f))

pub all_of : {A B : Type 0} (f : A → B) (xs : List A) (k : ℕ) → length xs ≤ k → take k (map f xs) ≡ map f xs
all_of f xs k h = all_taken (map f xs) k (omega (arith, h, length-map xs f))

pub leads_more : {A : Type 0} (f : A → Sym) (g : Graph) (xs : List A) (k : ℕ) (x : A) (s t : ℕ) → k < length xs → x ≡ get_or xs k x → g.edge s (f x) ≡ Some t →
    Leads g (reverse (take k (map f xs))) s → Leads g (reverse (take (k + 1) (map f xs))) t
leads_more f g xs k x s t lt e edge before =
    let inside : k < length (map f xs) = omega (arith, lt, length-map xs f) in
    let one : take (k + 1) (map f xs) ≡ take k (map f xs) ++ f x ∷ [] = take_more (map f xs) k (f x) inside ∙ ap (λ y. take k (map f xs) ++ y ∷ []) (map_at f xs k x (f x) lt e) in
    subst (λ w. Leads g w t) (sym (ap reverse one ∙ reverse-append (take k (map f xs)) (f x ∷ []))) (Leads.on before edge)

pub leads_all : {A : Type 0} (f : A → Sym) (g : Graph) (xs : List A) (k s : ℕ) → length xs ≤ k → Leads g (reverse (take k (map f xs))) s → Leads g (reverse (map f xs)) s
leads_all f g xs k s h l = subst (λ v. Leads g (reverse v) s) (all_of f xs k h) l

-- a list whose last one comes first, put behind others
module _ {A B : Type 0} (f : A → B) where
  turned_at : (xs : List A) (k : ℕ) (x : A) → k < length xs → x ≡ get_or xs (length xs - 1 - k) x → get_or (reverse (map f xs)) k (f x) ≡ f x
  turned_at xs k x lt e =
      let inside : k < length (map f xs) = omega (arith, lt, length-map xs f) in
      get_or-reverse (map f xs) k (f x) inside ∙ ap (λ n. get_or (map f xs) (n - 1 - k) (f x)) (length-map xs f) ∙ map_at f xs (length xs - 1 - k) x (f x) (omega (arith, lt)) e

  pub turned_more : (xs start rest next : List A) (k : ℕ) (x : A) → k < length xs → x ≡ get_or xs (length xs - 1 - k) x → next ≡ rest ++ x ∷ [] →
      map f rest ≡ map f start ++ take k (reverse (map f xs)) → map f next ≡ map f start ++ take (k + 1) (reverse (map f xs))
  turned_more xs start rest next k x lt e more before =
      let inside : k < length (reverse (map f xs)) = omega (arith, lt, length-map xs f, length-reverse (map f xs)) in
      let one : take (k + 1) (reverse (map f xs)) ≡ take k (reverse (map f xs)) ++ f x ∷ [] =
      take_more (reverse (map f xs)) k (f x) inside ∙ ap (λ y. take k (reverse (map f xs)) ++ y ∷ []) (turned_at xs k x lt e) in
      ap (map f) more ∙ map-append f rest (x ∷ []) ∙ ap (λ l. l ++ f x ∷ []) before ∙ append_assoc (map f start) (take k (reverse (map f xs))) (f x ∷ []) ∙ ap (λ l. map f start ++ l) (sym one)

  pub turned_none : (xs start : List A) → map f start ≡ map f start ++ take 0 (reverse (map f xs))
  turned_none xs start = sym (append-nil (map f start))

  pub turned_all : (xs start rest : List A) (k : ℕ) → length xs ≤ k → map f rest ≡ map f start ++ take k (reverse (map f xs)) → map f rest ≡ map f start ++ reverse (map f xs)
  turned_all xs start rest k h e = e ∙ ap (λ l. map f start ++ l) (all_taken (reverse (map f xs)) k (omega (arith, h, length-map xs f, length-reverse (map f xs))))

pub last_is : {A : Type 0} (xs : List A) (x : A) → x ≡ get_or xs (length xs - 1) x → (length xs ≡ 0 → ⊥) → xs ≡ take (length xs - 1) xs ++ x ∷ []
last_is xs x e n =
    let one : length xs - 1 < length xs = omega (arith, n) in
    sym (all_taken xs (length xs - 1 + 1) (omega arith)) ∙ take_more xs (length xs - 1) x one ∙ ap (λ y. take (length xs - 1) xs ++ y ∷ []) (sym e)

-- the last one of a list, where that is turned
pub last_turned : {A B : Type 0} (f : A → B) (outer items : List A) (x : A) → items ≡ outer ++ x ∷ [] → reverse (map f items) ≡ f x ∷ reverse (map f outer)
last_turned f outer items x e = ap (λ l. reverse (map f l)) e ∙ ap reverse (map-append f outer (x ∷ [])) ∙ reverse-append (map f outer) (f x ∷ [])
