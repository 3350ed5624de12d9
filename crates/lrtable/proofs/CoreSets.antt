-- Cores: when two are the same, and what their union is.
use Rattle.std.proofs.Common.{◌≡◌, ℕ, zero, suc, ◌<◌, ◌≤◌, ◌⊎◌, inl, inr, ◌↔◌, Bool, true, false, ◌||◌, List, [], ◌∷◌, length, get_or, refl, sym, ap, ◌∙◌, subst, arith}
use Rattle.std.specs.Prelude.{IsTrue}
use Rattle.std.proofs.lemmas.Bool.{cases_lt}
use Rattle.std.proofs.lemmas.List.{get_or_past}
use Rattle.vob.specs.Bits.{bitwise, Meets}
use Rattle.vob.specs.Sets.{is_set}
use Rattle.lr_theory.specs.Itemset.{HasItem, HasLook, SameItems, Is, Union}
use Rattle.state_table.specs.Meeting.{PairFits, RowsFit, row}
use Rattle.state_table.specs.ItemRows.{Item, Ascends, set_of, join_rows, CoversRows, LacksRows}
use Rattle.vob.proofs.Bits.{joined}
use Rattle.lr_theory.proofs.ItemLists.{one_list}
use Rattle.state_table.proofs.ItemSets.{has_item, has_look, one_place, nought, at_own}

never : false ≡ true → ⊥
never e = cc

-- maps that hold the same items have one list of items
pub same_cores : (xs ys : List Item) (ls ms : List (List Bool)) → Ascends xs → Ascends ys → length ls ≡ length xs → length ms ≡ length ys → SameItems (HasItem (set_of xs ls)) (HasItem (set_of ys ms)) → xs ≡ ys
same_cores xs ys ls ms a b n m h = one_list xs ys a b (λ p d. (
  λ x. (has_item ys ms b m p d).0 ((h p d).0 ((has_item xs ls a n p d).1 x)),
  λ x. (has_item xs ls a n p d).0 ((h p d).1 ((has_item ys ms b m p d).1 x)),
))

-- ---- unions

pub length_join : (ls ms : List (List Bool)) → length (join_rows ls ms) ≡ length ls
length_join [] ms = refl
length_join (l ∷ ls) [] = refl
length_join (l ∷ ls) (m ∷ ms) = ap suc (length_join ls ms)

pub row_join : (ls ms : List (List Bool)) (k : ℕ) → length ms ≡ length ls → k < length ls → row (join_rows ls ms) k ≡ bitwise (λ x y. x || y) (row ls k) (row ms k)
row_join [] ms k e lt = absurd (omega (arith, lt))
row_join (l ∷ ls) [] k e lt = absurd (omega (arith, e))
row_join (l ∷ ls) (m ∷ ms) zero e lt = refl
row_join (l ∷ ls) (m ∷ ms) (suc k) e lt = row_join ls ms k (omega (arith, e)) (omega (arith, lt))

module _ (items : List Item) (ls ms : List (List Bool)) (a : Ascends items) (n : length ls ≡ length items) (m : length ms ≡ length items) (same : (k : ℕ) → k < length items → length (row ls k) ≡ length (row ms k)) where
  count : length (join_rows ls ms) ≡ length items
  count = length_join ls ms ∙ n

  in_join : (k t : ℕ) → k < length items → IsTrue (is_set (row (join_rows ls ms) k) t) ↔ (IsTrue (is_set (row ls k) t) ⊎ IsTrue (is_set (row ms k) t))
  in_join k t lt = subst (λ l. IsTrue (is_set l t) ↔ (IsTrue (is_set (row ls k) t) ⊎ IsTrue (is_set (row ms k) t))) (sym (row_join ls ms k (m ∙ sym n) (omega (arith, lt, n)))) (joined (row ls k) (row ms k) t (same k lt))

  pub union_is : Is (set_of items (join_rows ls ms)) (HasItem (set_of items ls)) (Union (HasLook (set_of items ls)) (HasLook (set_of items ms)))
  union_is = record {
    items = λ p d. (λ h. (has_item items (join_rows ls ms) a count p d).1 ((has_item items ls a n p d).0 h), λ h. (has_item items ls a n p d).1 ((has_item items (join_rows ls ms) a count p d).0 h));
    looks = λ p d t. (
      λ h. (has_look items (join_rows ls ms) a count p d t).1 (elim h [
        | inl x ↦ (let f = (has_look items ls a n p d t).0 x in (f.0, f.1, (in_join f.0 t f.1.within).1 (inl f.2)))
        | inr y ↦ (let f = (has_look items ms a m p d t).0 y in (f.0, f.1, (in_join f.0 t f.1.within).1 (inr f.2)))
      ]),
      λ h. (let f = (has_look items (join_rows ls ms) a count p d t).0 h in elim ((in_join f.0 t f.1.within).0 f.2) [ inl x ↦ inl ((has_look items ls a n p d t).1 (f.0, f.1, x)) | inr y ↦ inr ((has_look items ms a m p d t).1 (f.0, f.1, y)) ]),
    );
  }

  -- rows that cover others have their lookaheads
  pub covers : CoversRows ls ms → (p d t : ℕ) → HasLook (set_of items ms) p d t → HasLook (set_of items ls) p d t
  covers h p d t x = let f = (has_look items ms a m p d t).0 x in (has_look items ls a n p d t).1 (f.0, f.1, h f.0 t f.2)

  -- and rows that don't lack one
  pub lacks : LacksRows ls ms → (p : ℕ) × (d : ℕ) × (t : ℕ) × HasLook (set_of items ms) p d t × (HasLook (set_of items ls) p d t → ⊥)
  lacks (k, t, h, absent) =
      elim (cases_lt k (length items)) [ inl lt ↦ here lt | inr ge ↦ absurd (never (sym (past ge) ∙ h)) ]
    where
      past : length items ≤ k → is_set (row ms k) t ≡ false
      past ge = ap (λ l. is_set l t) (get_or_past ms k [] (omega (arith, ge, m)))

      here : k < length items → (p : ℕ) × (d : ℕ) × (t : ℕ) × HasLook (set_of items ms) p d t × (HasLook (set_of items ls) p d t → ⊥)
      here lt =
          let at = at_own items k lt in
          let i = get_or items k nought in
          (i.production, i.dot, t, (has_look items ms a m i.production i.dot t).1 (k, at, h), λ x. (let f = (has_look items ls a n i.production i.dot t).0 x in absent (subst (λ j. IsTrue (is_set (row ls j) t)) (one_place items a f.0 k i.production i.dot f.1 at) f.2)))

-- ---- rows that hold others fit them: no pair has to be tested

meets_decides : (a b : List Bool) → Dec (Meets a b)
meets_decides [] b = no (λ m. never m.1)
meets_decides (x ∷ a) [] = no (λ m. never m.2)
meets_decides (true ∷ a) (true ∷ b) = yes (zero, refl, refl)
meets_decides (true ∷ a) (false ∷ b) = later true false a b (λ h k. never k) (meets_decides a b)
  where
    later : (x y : Bool) (a b : List Bool) → (IsTrue x → IsTrue y → ⊥) → Dec (Meets a b) → Dec (Meets (x ∷ a) (y ∷ b))
    later x y a b none (yes m) = yes (suc m.0, m.1, m.2)
    later x y a b none (no n) = no (λ m. at m.0 m.1 m.2)
      where
        at : (t : ℕ) → IsTrue (is_set (x ∷ a) t) → IsTrue (is_set (y ∷ b) t) → ⊥
        at zero h k = none h k
        at (suc t) h k = n (t, h, k)
meets_decides (false ∷ a) (y ∷ b) = later a b (meets_decides a b)
  where
    later : (a b : List Bool) → Dec (Meets a b) → Dec (Meets (false ∷ a) (y ∷ b))
    later a b (yes m) = yes (suc m.0, m.1, m.2)
    later a b (no n) = no (λ m. at m.0 m.1 m.2)
      where
        at : (t : ℕ) → IsTrue (is_set (false ∷ a) t) → IsTrue (is_set (y ∷ b) t) → ⊥
        at zero h k = never h
        at (suc t) h k = n (t, h, k)

pub covers_fit : (ls ms : List (List Bool)) → CoversRows ls ms → RowsFit ls ms
covers_fit ls ms h i j lt within = by (meets_decides (row ls i) (row ms j)) (meets_decides (row ms i) (row ls j))
  where
    by : Dec (Meets (row ls i) (row ms j)) → Dec (Meets (row ms i) (row ls j)) → PairFits (row ls i) (row ls j) (row ms i) (row ms j)
    by (yes m) other = inr (inl (m.0, m.1, h j m.0 m.2))
    by (no n) (yes m) = inr (inl (m.0, h i m.0 m.1, m.2))
    by (no n) (no k) = inl (n, k)
