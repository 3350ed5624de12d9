-- Edges in the order of their symbols: what they are looked up as, and when two lists are one.
use Rattle.std.proofs.Common.{◌≡◌, ℕ, zero, suc, ◌<◌, ◌⊎◌, inl, inr, Bool, true, false, cond, List, [], ◌∷◌, length, get_or, Option, Some, None, refl, sym, ap, ap₂, ◌∙◌, subst, arith}
use Rattle.cfg_theory.specs.Grammar.{Sym, rule, token}
use Rattle.lr_theory.specs.Building.{same_symbol}
use Rattle.lr_theory.proofs.Place.{same_symbol_refl, same_symbol_true}
use Rattle.state_table.specs.Graphs.{AreInOrder, target_in, SymBefore}

symbols_differ : (X Y : Sym) → SymBefore Y X → same_symbol X Y ≡ false
symbols_differ (rule A) (rule B) lt = grind (arith, lt)
symbols_differ (rule A) (token t) h = absurd h
symbols_differ (token t) (rule A) h = refl
symbols_differ (token t) (token u) lt = grind (arith, lt)

-- each edge of a list in order is the one on its symbol
pub found_at : (es : List (Sym × ℕ)) (i : ℕ) (d : Sym × ℕ) → AreInOrder es → i < length es → target_in es (get_or es i d).0 ≡ Some (get_or es i d).1
found_at [] i d a lt = absurd (omega (arith, lt))
found_at (e ∷ es) zero d a lt = ap (λ b. cond b (Some e.1) (target_in es e.0)) (same_symbol_refl e.0)
found_at (e ∷ es) (suc i) d a lt =
    ap (λ b. cond b (Some e.1) (target_in es (get_or es i d).0)) (symbols_differ (get_or es i d).0 e.0 (a zero (suc i) d (omega arith) lt)) ∙
    found_at es i d (λ j k x l w. a (suc j) (suc k) x (omega (arith, l)) (omega (arith, w))) (omega (arith, lt))

-- ---- lists that are looked up alike are one

none_is : (k : ℕ) → None ≡ Some k → ⊥
none_is k e = cc

own : (e : Sym × ℕ) (es : List (Sym × ℕ)) → target_in (e ∷ es) e.0 ≡ Some e.1
own e es = ap (λ b. cond b (Some e.1) (target_in es e.0)) (same_symbol_refl e.0)

tail_order : (e : Sym × ℕ) (es : List (Sym × ℕ)) → AreInOrder (e ∷ es) → AreInOrder es
tail_order e es a = λ i j d ij lt. a (suc i) (suc j) d (omega (arith, ij)) (omega (arith, lt))

abbrev AllAfter : Sym → List (Sym × ℕ) → Type 0
AllAfter Y es = (i : ℕ) (d : Sym × ℕ) → i < length es → SymBefore Y (get_or es i d).0

tail_after : (e : Sym × ℕ) (es : List (Sym × ℕ)) → AreInOrder (e ∷ es) → AllAfter e.0 es
tail_after e es a = λ i d lt. a zero (suc i) d (omega arith) (omega (arith, lt))

rest_after : (Y : Sym) (e : Sym × ℕ) (es : List (Sym × ℕ)) → AllAfter Y (e ∷ es) → AllAfter Y es
rest_after Y e es h = λ i d lt. h (suc i) d (omega (arith, lt))

not_both : (X Y : Sym) → SymBefore X Y → SymBefore Y X → ⊥
not_both (rule A) (rule B) h k = omega (arith, h, k)
not_both (rule A) (token t) h k = k
not_both (token t) (rule A) h k = h
not_both (token t) (token u) h k = omega (arith, h, k)

-- what is found comes after what all come after
later_step : (f : Sym × ℕ) (Y X : Sym) (k : ℕ) (o : Option ℕ) → SymBefore Y f.0 → (o ≡ Some k → SymBefore Y X) → (b : Bool) → same_symbol X f.0 ≡ b → cond b (Some f.1) o ≡ Some k → SymBefore Y X
later_step f Y X k o before rest true q h = subst (SymBefore Y) (sym (same_symbol_true X f.0 q)) before
later_step f Y X k o before rest false q h = rest h

found_after : (es : List (Sym × ℕ)) (Y X : Sym) (k : ℕ) → AllAfter Y es → target_in es X ≡ Some k → SymBefore Y X
found_after [] Y X k all h = absurd (none_is k h)
found_after (f ∷ fs) Y X k all h = later_step f Y X k (target_in fs X) (all zero f (omega arith)) (λ q. found_after fs Y X k (rest_after Y f fs all) q) (same_symbol X f.0) refl h

either_step : (e : Sym × ℕ) (X : Sym) (k : ℕ) (o : Option ℕ) → (o ≡ Some k → SymBefore e.0 X) → (b : Bool) → same_symbol X e.0 ≡ b → cond b (Some e.1) o ≡ Some k → (X ≡ e.0) ⊎ SymBefore e.0 X
either_step e X k o rest true q h = inl (same_symbol_true X e.0 q)
either_step e X k o rest false q h = inr (rest h)

-- it is the first one's, or comes after
found_either : (e : Sym × ℕ) (es : List (Sym × ℕ)) (X : Sym) (k : ℕ) → AreInOrder (e ∷ es) → target_in (e ∷ es) X ≡ Some k → (X ≡ e.0) ⊎ SymBefore e.0 X
found_either e es X k a h = either_step e X k (target_in es X) (λ q. found_after es e.0 X k (tail_after e es a) q) (same_symbol X e.0) refl h

none_by : (Y : Sym) (es : List (Sym × ℕ)) → AllAfter Y es → (o : Option ℕ) → target_in es Y ≡ o → o ≡ None
none_by Y es all None e = refl
none_by Y es all (Some k) e = absurd (let h = found_after es Y Y k all e in not_both Y Y h h)

none_left : (e : Sym × ℕ) (es : List (Sym × ℕ)) (X : Sym) → X ≡ e.0 → AreInOrder (e ∷ es) → target_in es X ≡ None
none_left e es X q a = ap (target_in es) q ∙ none_by e.0 es (tail_after e es a) (target_in es e.0) refl

module _ (e f : Sym × ℕ) (es fs : List (Sym × ℕ)) (a : AreInOrder (e ∷ es)) (b : AreInOrder (f ∷ fs)) (h : (X : Sym) → target_in (e ∷ es) X ≡ target_in (f ∷ fs) X) where
  same_symbols : e.0 ≡ f.0
  same_symbols = elim (found_either f fs e.0 e.1 b (sym (h e.0) ∙ own e es)) [
    | inl q ↦ q
    | inr k ↦ elim (found_either e es f.0 f.1 a (h f.0 ∙ own f fs)) [
      | inl q ↦ sym q
      | inr l ↦ absurd (not_both e.0 f.0 l k)
    ]
  ]

  same_targets : e.1 ≡ f.1
  same_targets = let q : Some e.1 ≡ Some f.1 = sym (own e es) ∙ (h e.0 ∙ (ap (target_in (f ∷ fs)) same_symbols ∙ own f fs)) in cc

  same_firsts : e ≡ f
  same_firsts = let made : Sym → ℕ → Sym × ℕ = λ X k. (X, k) in ap₂ made same_symbols same_targets

  same_rest : (X : Sym) → target_in es X ≡ target_in fs X
  same_rest X = by (same_symbol X e.0) refl where
    by : (c : Bool) → same_symbol X e.0 ≡ c → target_in es X ≡ target_in fs X
    by true q = none_left e es X (same_symbol_true X e.0 q) a ∙ sym (none_left f fs X (same_symbol_true X e.0 q ∙ same_symbols) b)
    by false q = sym (ap (λ c. cond c (Some e.1) (target_in es X)) q) ∙ (h X ∙ ap (λ c. cond c (Some f.1) (target_in fs X)) (ap (same_symbol X) (sym same_symbols) ∙ q))

pub same_edges : (es fs : List (Sym × ℕ)) → AreInOrder es → AreInOrder fs → ((X : Sym) → target_in es X ≡ target_in fs X) → es ≡ fs
same_edges [] [] a b h = refl
same_edges [] (f ∷ fs) a b h = absurd (none_is f.1 (h f.0 ∙ own f fs))
same_edges (e ∷ es) [] a b h = absurd (none_is e.1 (sym (h e.0) ∙ own e es))
same_edges (e ∷ es) (f ∷ fs) a b h = ap₂ (λ x l. x ∷ l) (same_firsts e f es fs a b h) (same_edges es fs (tail_order e es a) (tail_order f fs b) (same_rest e f es fs a b h))
