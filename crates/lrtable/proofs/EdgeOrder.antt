-- The edges of a state in the order of their symbols: putting one among them.
use Rattle.std.proofs.Common.{◌≡◌, ℕ, zero, suc, ◌+◌, ◌<◌, ◌≤◌, inl, inr, Bool, true, false, cond, List, [], ◌∷◌, length, get_or, set, map, Some, None, nat_eq, refl, sym, ap, ap₂, ◌∙◌, subst, subst₂, arith, eqb-true}
use Rattle.std.specs.List.{insert, Contains}
use Rattle.std.proofs.lemmas.Bool.{cases_Bool, cases_eq, cases_lt}
use Rattle.std.proofs.lemmas.List.{get_or-set_same, get_or-set_other, length-set, length-map, map-set, get_or_default}
use Rattle.cfg_theory.specs.Grammar.{Sym, rule, token}
use Rattle.lr_theory.specs.Building.{same_symbol}
use Rattle.lr_theory.proofs.Place.{same_symbol_true, same_symbol_refl, nat_eq_refl}
use Rattle.lrtable.specs.States.{Edge, EdgeBefore, AscendEdges, edge_in, IsPut}
use Rattle.state_table.specs.Graphs.{SymBefore}
use Rattle.state_table.proofs.Adding.{all_pairs_insert}
use Rattle.state_table.proofs.CoreSteps.{map_insert}

-- ---- the order

pub before_trans : (X Y Z : Sym) → SymBefore X Y → SymBefore Y Z → SymBefore X Z
before_trans (rule A) (rule B) (rule C) h k = omega (arith, h, k)
before_trans (rule A) (rule B) (token t) h k = tt
before_trans (rule A) (token t) (rule B) h k = absurd k
before_trans (rule A) (token t) (token u) h k = tt
before_trans (token t) (rule A) Z h k = absurd h
before_trans (token t) (token u) (rule A) h k = absurd k
before_trans (token t) (token u) (token v) h k = omega (arith, h, k)

never : true ≡ false → ⊥
never e = cc

number_differs : (m n : ℕ) → (m ≡ n → ⊥) → nat_eq m n ≡ false
number_differs m n ne = elim (cases_Bool (nat_eq m n)) [ inl h ↦ absurd (ne (eqb-true m n h)) | inr h ↦ h ]

-- a symbol before another isn't the same
pub before_differs : (X Y : Sym) → SymBefore X Y → same_symbol X Y ≡ false
before_differs (rule A) (rule B) h = number_differs A B (λ e. omega (arith, e, h))
before_differs (rule A) (token t) h = refl
before_differs (token t) (rule A) h = absurd h
before_differs (token t) (token u) h = number_differs t u (λ e. omega (arith, e, h))

pub after_differs : (X Y : Sym) → SymBefore X Y → same_symbol Y X ≡ false
after_differs (rule A) (rule B) h = number_differs B A (λ e. omega (arith, e, h))
after_differs (rule A) (token t) h = refl
after_differs (token t) (rule A) h = absurd h
after_differs (token t) (token u) h = number_differs u t (λ e. omega (arith, e, h))

number_after : (m n : ℕ) → (m < n → ⊥) → nat_eq m n ≡ false → n < m
number_after m n none differs = elim (cases_lt n m) [
  | inl lt ↦ lt
  | inr ge ↦ elim (cases_eq m n) [ inl e ↦ absurd (never (sym (nat_eq_refl n) ∙ ap (λ k. nat_eq k n) (sym e) ∙ differs)) | inr ne ↦ absurd (none (omega (arith, ge, ne))) ]
]

-- one that is neither before another nor the same is after it
pub after_else : (X Y : Sym) → (SymBefore X Y → ⊥) → same_symbol X Y ≡ false → SymBefore Y X
after_else (rule A) (rule B) none differs = number_after A B none differs
after_else (rule A) (token t) none differs = absurd (none tt)
after_else (token t) (rule A) none differs = tt
after_else (token t) (token u) none differs = number_after t u none differs

-- ---- an edge put in the place of another

put_here : (Y X : Sym) (k : ℕ) (x e : Edge) (es : List Edge) → same_symbol x.symbol X ≡ true → e.symbol ≡ X → e.target ≡ k → (b : Bool) → same_symbol Y X ≡ b →
    edge_in (e ∷ es) Y ≡ cond (same_symbol Y X) (Some k) (edge_in (x ∷ es) Y)
put_here Y X k x e es h s t true q = ap₂ (λ u v. cond (same_symbol Y u) (Some v) (edge_in es Y)) s t ∙ ap (λ b. cond b (Some k) (edge_in es Y)) q ∙ sym (ap (λ b. cond b (Some k) (edge_in (x ∷ es) Y)) q)
put_here Y X k x e es h s t false q =
    let other : same_symbol Y x.symbol ≡ false = ap (same_symbol Y) (same_symbol_true x.symbol X h) ∙ q in
    ap₂ (λ u v. cond (same_symbol Y u) (Some v) (edge_in es Y)) s t ∙ ap (λ b. cond b (Some k) (edge_in es Y)) q ∙ sym (ap (λ b. cond b (Some k) (edge_in (x ∷ es) Y)) q ∙ ap (λ b. cond b (Some x.target) (edge_in es Y)) other)

put_later : (Y X : Sym) (k : ℕ) (x : Edge) (es fs : List Edge) → same_symbol x.symbol X ≡ false → edge_in fs Y ≡ cond (same_symbol Y X) (Some k) (edge_in es Y) → (b : Bool) → same_symbol Y x.symbol ≡ b →
    edge_in (x ∷ fs) Y ≡ cond (same_symbol Y X) (Some k) (edge_in (x ∷ es) Y)
put_later Y X k x es fs h r true q =
    let other : same_symbol Y X ≡ false = ap (λ u. same_symbol u X) (same_symbol_true Y x.symbol q) ∙ h in
    ap (λ b. cond b (Some x.target) (edge_in fs Y)) q ∙ sym (ap (λ b. cond b (Some k) (edge_in (x ∷ es) Y)) other ∙ ap (λ b. cond b (Some x.target) (edge_in es Y)) q)
put_later Y X k x es fs h r false q =
    ap (λ b. cond b (Some x.target) (edge_in fs Y)) q ∙ r ∙ sym (ap (λ u. cond (same_symbol Y X) (Some k) u) (ap (λ b. cond b (Some x.target) (edge_in es Y)) q))

-- an edge in the place of the first on its symbol
pub put_found : (es : List Edge) (i : ℕ) (X : Sym) (k : ℕ) (e d : Edge) → i < length es → ((j : ℕ) → j < i → same_symbol (get_or es j d).symbol X ≡ false) → same_symbol (get_or es i d).symbol X ≡ true →
    e.symbol ≡ X → e.target ≡ k → (Y : Sym) → edge_in (set es i e) Y ≡ cond (same_symbol Y X) (Some k) (edge_in es Y)
put_found [] i X k e d lt before h s t Y = absurd (omega (arith, lt))
put_found (x ∷ es) zero X k e d lt before h s t Y = put_here Y X k x e es h s t (same_symbol Y X) refl
put_found (x ∷ es) (suc i) X k e d lt before h s t Y =
    put_later Y X k x es (set es i e) (before zero (omega arith)) (put_found es i X k e d (omega (arith, lt)) (λ j l. before (suc j) (omega (arith, l))) h s t Y) (same_symbol Y x.symbol) refl

-- or before those on later symbols
put_inserted : (es : List Edge) (i : ℕ) (X : Sym) (k : ℕ) (e d : Edge) → i ≤ length es → ((j : ℕ) → j < i → same_symbol (get_or es j d).symbol X ≡ false) → e.symbol ≡ X → e.target ≡ k →
    (Y : Sym) → edge_in (insert es i e) Y ≡ cond (same_symbol Y X) (Some k) (edge_in es Y)
put_inserted es zero X k e d le before s t Y = ap₂ (λ u v. cond (same_symbol Y u) (Some v) (edge_in es Y)) s t
put_inserted [] (suc i) X k e d le before s t Y = absurd (omega (arith, le))
put_inserted (x ∷ es) (suc i) X k e d le before s t Y =
    put_later Y X k x es (insert es i e) (before zero (omega arith)) (put_inserted es i X k e d (omega (arith, le)) (λ j l. before (suc j) (omega (arith, l))) s t Y) (same_symbol Y x.symbol) refl

-- ---- the order after that

ascends_set : (es : List Edge) (i : ℕ) (e : Edge) → AscendEdges es → i < length es → ((d : Edge) → (get_or es i d).symbol ≡ e.symbol) → AscendEdges (set es i e)
ascends_set es i e a lt same = λ j m d l within. subst₂ SymBefore (sym (symbol_at j d)) (sym (symbol_at m d)) (a j m d l (let n = length-set es i e in omega (arith, within, n)))
  where
    symbol_at : (j : ℕ) (d : Edge) → (get_or (set es i e) j d).symbol ≡ (get_or es j d).symbol
    symbol_at j d = elim (cases_eq j i) [
      | inl q ↦ ap (λ n. (get_or (set es i e) n d).symbol) q ∙ ap (λ (x : Edge). x.symbol) (get_or-set_same es i e d lt) ∙ sym (same d) ∙ ap (λ n. (get_or es n d).symbol) (sym q)
      | inr ne ↦ ap (λ (x : Edge). x.symbol) (get_or-set_other es i j e d ne)
    ]

ascends_insert : (es : List Edge) (i : ℕ) (e : Edge) → i ≤ length es → AscendEdges es → ((j : ℕ) → j < i → (d : Edge) → SymBefore (get_or es j d).symbol e.symbol) → ((d : Edge) → i < length es → SymBefore e.symbol (get_or es i d).symbol) → AscendEdges (insert es i e)
ascends_insert es i e le a low at = all_pairs_insert es i e le EdgeBefore a (λ j d lt. low j lt d) high
  where
    high : (j : ℕ) (d : Edge) → i ≤ j → j < length es → SymBefore e.symbol (get_or es j d).symbol
    high j d ge lt = elim (cases_eq j i) [
      | inl q ↦ subst (λ n. SymBefore e.symbol (get_or es n d).symbol) (sym q) (at d (omega (arith, q, lt)))
      | inr ne ↦ before_trans e.symbol (get_or es i d).symbol (get_or es j d).symbol (at d (omega (arith, ge, lt))) (a i j d (omega (arith, ge, ne)) lt)
    ]

-- ---- edges as a program keeps them

module _ {E : Type 0} (f : E → Edge) (xs : List E) (i : ℕ) (e : E) (X : Sym) (k : ℕ) (on : (f e).symbol ≡ X) (to : (f e).target ≡ k) (before : (j : ℕ) → j < i → (d : Edge) → SymBefore (get_or (map f xs) j d).symbol X) where
  -- the edge at the index is on the symbol
  pub put_same : i < length xs → ((d : Edge) → same_symbol (get_or (map f xs) i d).symbol X ≡ true) → IsPut (map f xs) X k (map f (set xs i e))
  put_same lt here =
      let n : i < length (map f xs) = (let m = length-map xs f in omega (arith, m, lt)) in
      subst (λ (l : List Edge). IsPut (map f xs) X k l) (sym (map-set f xs i e)) (record {
        at = put_found (map f xs) i X k (f e) (f e) n (λ j l. before_differs (get_or (map f xs) j (f e)).symbol X (before j l (f e))) (here (f e)) on to;
        ascends = λ a. ascends_set (map f xs) i (f e) a n (λ d. same_symbol_true (get_or (map f xs) i d).symbol X (here d) ∙ sym on);
      })

  -- it is on a later one, or there is none
  pub put_new : i ≤ length xs → ((d : Edge) → i < length xs → SymBefore (get_or (map f xs) i d).symbol X → ⊥) → ((d : Edge) → i < length xs → same_symbol (get_or (map f xs) i d).symbol X ≡ false) → IsPut (map f xs) X k (map f (insert xs i e))
  put_new le stop other =
      let m : length (map f xs) ≡ length xs = length-map xs f in
      subst (λ (l : List Edge). IsPut (map f xs) X k l) (sym (map_insert f xs i e)) (record {
        at = put_inserted (map f xs) i X k (f e) (f e) (omega (arith, m, le)) (λ j l. before_differs (get_or (map f xs) j (f e)).symbol X (before j l (f e))) on to;
        ascends = λ a. ascends_insert (map f xs) i (f e) (omega (arith, m, le)) a (λ j l d. subst (λ (Y : Sym). SymBefore (get_or (map f xs) j d).symbol Y) (sym on) (before j l d))
            (λ d l. (let lt : i < length xs = omega (arith, m, l) in subst (λ (Y : Sym). SymBefore Y (get_or (map f xs) i d).symbol) (sym on) (after_else (get_or (map f xs) i d).symbol X (stop d lt) (other d lt))));
      })

-- ---- edges in order, looked up

-- an edge that is found stands among them
pub edge_found : (es : List Edge) (X : Sym) (k : ℕ) → edge_in es X ≡ Some k → (e : Edge) × Contains es e × (e.target ≡ k)
edge_found [] X k h = absurd (none_is k h)
  where
    none_is : (k : ℕ) → None ≡ Some k → ⊥
    none_is k h = cc
edge_found (x ∷ es) X k h = go (edge_found es X k) (same_symbol X x.symbol) h
  where
    target_is : (m n : ℕ) → Some m ≡ Some n → m ≡ n
    target_is m n q = cc

    go : (edge_in es X ≡ Some k → (e : Edge) × Contains es e × (e.target ≡ k)) → (b : Bool) → cond b (Some x.target) (edge_in es X) ≡ Some k → (e : Edge) × Contains (x ∷ es) e × (e.target ≡ k)
    go rest true q = (x, (zero, omega arith, refl), target_is x.target k q)
    go rest false q = let (e, (i, lt, at), t) = rest q in (e, (suc i, omega (arith, lt), at), t)

-- and one that stands among them is found
pub edge_here : (es : List Edge) (e : Edge) → AscendEdges es → Contains es e → edge_in es e.symbol ≡ Some e.target
edge_here [] e a (i, lt, at) = absurd (omega (arith, lt))
edge_here (x ∷ es) e a (zero, lt, at) = subst (λ (y : Edge). edge_in (x ∷ es) y.symbol ≡ Some y.target) at (ap (λ b. cond b (Some x.target) (edge_in es x.symbol)) (same_symbol_refl x.symbol))
edge_here (x ∷ es) e a (suc i, lt, at) =
    let later : SymBefore x.symbol e.symbol = subst (λ (y : Edge). SymBefore x.symbol y.symbol) at (a zero (suc i) e (omega arith) lt) in
    ap (λ b. cond b (Some x.target) (edge_in es e.symbol)) (after_differs x.symbol e.symbol later) ∙ edge_here es e (λ j k d l m. a (suc j) (suc k) d (omega (arith, l)) (omega (arith, m))) (i, omega (arith, lt), at)

-- ---- where the edge on a symbol stands

-- those before an edge on the symbol come before the symbol
pub before_on : (es : List Edge) (i : ℕ) (X : Sym) → AscendEdges es → i < length es → ((d : Edge) → same_symbol (get_or es i d).symbol X ≡ true) → (k : ℕ) → k < i → (d : Edge) → SymBefore (get_or es k d).symbol X
before_on es i X a lt on k below d = subst (SymBefore (get_or es k d).symbol) (same_symbol_true (get_or es i d).symbol X (on d)) (a k i d below lt)

-- where the last edge comes before the symbol all do
pub last_before : (es : List Edge) (X : Sym) (last : ℕ) (d' : Edge) → AscendEdges es → length es ≡ last + 1 → SymBefore (get_or es last d').symbol X → (k : ℕ) → k < length es → (d : Edge) → SymBefore (get_or es k d).symbol X
last_before es X last d' a n h k lt d = elim (cases_eq k last) [
  | inl e ↦ subst (λ (x : Edge). SymBefore x.symbol X) (get_or_default es last d' d (omega (arith, n)) ∙ ap (λ m. get_or es m d) (sym e)) h
  | inr ne ↦ before_trans (get_or es k d).symbol (get_or es last d).symbol X (a k last d (omega (arith, lt, n, ne)) (omega (arith, n))) (subst (λ (x : Edge). SymBefore x.symbol X) (get_or_default es last d' d (omega (arith, n))) h)
]
