-- Rows of lookaheads side by side.
use Rattle.std.proofs.Common.{◌≡◌, ℕ, ◌<◌, ◌≤◌, inl, inr, Bool, true, false, List, [], length, get_or, sym, ap, ◌∙◌, subst₂, arith}
use Rattle.std.specs.Prelude.{IsTrue}
use Rattle.std.proofs.lemmas.List.{get_or-map, get_or_past}
use Rattle.std.proofs.lemmas.Bool.{cases_lt}
use Rattle.vob.specs.Bits.{LacksSome}
use Rattle.vob.specs.Packed.{Contents}
use Rattle.vob.specs.Sets.{is_set}
use Rattle.state_table.specs.ItemRows.{CoversRows, LacksRows}
use Rattle.state_table.specs.Meeting.{PairFits, PairApart, AreAlike, row, rows_in}

pub row_of : (items : List Contents) (i : ℕ) (x : Contents) → i < length items → x ≡ get_or items i x → row (rows_in items) i ≡ x.bits
row_of items i x lt e = get_or-map (λ y. y.bits) items i x [] lt ∙ ap (λ y. y.bits) (sym e)

-- the lookaheads of one item in one set and of another in the other are of one width
pub alike_at : (a b : List (List Bool)) → AreAlike a b → (i j : ℕ) (x y : List Bool) → i < length a → j < length b → row a i ≡ x → row b j ≡ y → length x ≡ length y
alike_at a b h i j x y li lj ex ey = let k = h.count in sym (ap length ex) ∙ (h.width.1 i li).0 ∙ sym (h.width.1 j (omega (arith, k, lj))).1 ∙ ap length ey

pub alike_left : (a b : List (List Bool)) → AreAlike a b → (i j : ℕ) (x y : List Bool) → i < length a → j < length a → row a i ≡ x → row a j ≡ y → length x ≡ length y
alike_left a b h i j x y li lj ex ey = sym (ap length ex) ∙ (h.width.1 i li).0 ∙ sym (h.width.1 j lj).0 ∙ ap length ey

module _ (a b : List (List Bool)) (i j : ℕ) (ai aj bi bj : List Bool) (ei : row a i ≡ ai) (ej : row a j ≡ aj) (fi : row b i ≡ bi) (fj : row b j ≡ bj) where
  pub fits_rows : PairFits ai aj bi bj → PairFits (row a i) (row a j) (row b i) (row b j)
  fits_rows h = subst₂ (λ p q. PairFits p q (row b i) (row b j)) (sym ei) (sym ej) (subst₂ (λ p q. PairFits ai aj p q) (sym fi) (sym fj) h)

  pub apart_rows : PairApart ai aj bi bj → PairApart (row a i) (row a j) (row b i) (row b j)
  apart_rows h = subst₂ (λ p q. PairApart p q (row b i) (row b j)) (sym ei) (sym ej) (subst₂ (λ p q. PairApart ai aj p q) (sym fi) (sym fj) h)

-- a row that lacks a token of the one beside it
pub one_lacked : (ls ms : List (List Bool)) (k : ℕ) (a b : List Bool) → row ls k ≡ a → row ms k ≡ b → LacksSome a b → LacksRows ls ms
one_lacked ls ms k a b at beside (t, h, free) = (k, t, ap (λ l. is_set l t) beside ∙ h, λ x. never (sym free ∙ sym (ap (λ l. is_set l t) at) ∙ x))
  where
    never : false ≡ true → ⊥
    never e = cc

-- each row was compared
pub all_covered : (a b : List (List Bool)) (i : ℕ) → length b ≤ i → ((k : ℕ) → k < i → (t : ℕ) → IsTrue (is_set (row b k) t) → IsTrue (is_set (row a k) t)) → CoversRows a b
all_covered a b i done h = λ k t x. elim (cases_lt k i) [
  | inl lt ↦ h k lt t x
  | inr ge ↦ absurd (never (sym (ap (λ l. is_set l t) (get_or_past b k [] (omega (arith, done, ge)))) ∙ x))
]
  where
    never : false ≡ true → ⊥
    never e = cc
