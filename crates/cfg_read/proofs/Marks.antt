-- What is marked for each of a list of texts.
use Rattle.std.proofs.Common.{◌≡◌, ℕ, zero, suc, ◌<◌, Bool, true, false, ◌||◌, ◌&&◌, List, [], ◌∷◌, ◌++◌, length, slice_get, slice_index_or, slice_set, replicate, Some, refl, sym, ap, ◌∙◌, arith}
use Rattle.std.specs.List.{list_any, AllByRecursion, IsDistinct}
use Rattle.std.specs.Str.{bytes_eq}
use Rattle.std.proofs.lemmas.Option.{slice_get-get_or, slice_get_within}
use Rattle.std.proofs.lemmas.List.{length-set}
use Rattle.std.proofs.lemmas.Slice.Eq.{bytes_eq-Decides}
use Rattle.cfg_read.specs.declared.yacc.name_table.Entry.{Entry}
use Rattle.cfg_read.specs.SyntaxTexts.{WordText}
use Rattle.cfg_read.specs.Names.{is_named, with_distinct}
use Rattle.cfg_read.specs.NameTables.{is_marked, nothing, IsTable}
use Rattle.cfg_read.proofs.Grouping.{or_left, or_right}
use Rattle.cfg_read.proofs.NameLemmas.{or_false, among_more}

same_item : {A : Type 0} (x y : A) → Some x ≡ Some y → x ≡ y
same_item x y e = cc

-- a text that differs from all
absent_from : (t : List ℕ) (ts : List (List ℕ)) → AllByRecursion (λ u. bytes_eq t u ≡ false) ts → list_any (bytes_eq t) ts ≡ false
absent_from t [] h = refl
absent_from t (u ∷ ts) h = ap (λ b. b || list_any (bytes_eq t) ts) h.0 ∙ absent_from t ts h.1

-- and from the one at a place
apart_at : (t : List ℕ) (ts : List (List ℕ)) (p : ℕ) (q : List ℕ) → AllByRecursion (λ u. bytes_eq t u ≡ false) ts → slice_get ts p ≡ Some q → bytes_eq t q ≡ false
apart_at t [] p q h e = absurd cc
apart_at t (u ∷ ts) zero q h e = ap (bytes_eq t) (sym (same_item u q e)) ∙ h.0
apart_at t (u ∷ ts) (suc p) q h e = apart_at t ts p q h.1 e

bytes_sym : (a b : List ℕ) → bytes_eq a b ≡ false → bytes_eq b a ≡ false
bytes_sym a b h = by (bytes_eq b a) refl
  where
    by : (c : Bool) → bytes_eq b a ≡ c → c ≡ false
    by true e = sym ((bytes_eq-Decides a b).1 (sym ((bytes_eq-Decides b a).0 e))) ∙ h
    by false e = refl

head_apart : (t : List ℕ) (ts : List (List ℕ)) → IsDistinct bytes_eq (t ∷ ts) → AllByRecursion (λ u. bytes_eq t u ≡ false) ts
unfolding IsDistinct
head_apart t ts d = d.0

tail_distinct : (t : List ℕ) (ts : List (List ℕ)) → IsDistinct bytes_eq (t ∷ ts) → IsDistinct bytes_eq ts
unfolding IsDistinct
tail_distinct t ts d = d.1

module _ (mark : Entry → Bool) where
  -- a text that isn't there
  pub marked_none : (ts : List (List ℕ)) (es : List Entry) (q : List ℕ) → list_any (bytes_eq q) ts ≡ false → is_marked mark ts es q ≡ false
  marked_none [] es q h = refl
  marked_none (t ∷ ts) [] q h = refl
  marked_none (t ∷ ts) (e ∷ es) q h =
      ap (λ b. (b && mark e) || is_marked mark ts es q) (or_left (bytes_eq q t) (list_any (bytes_eq q) ts) h)
      ∙ marked_none ts es q (or_right (bytes_eq q t) (list_any (bytes_eq q) ts) h)

  -- the one at a place
  pub marked_at : (ts : List (List ℕ)) (es : List Entry) (p : ℕ) (q : List ℕ) (e : Entry) → IsDistinct bytes_eq ts → slice_get ts p ≡ Some q → slice_get es p ≡ Some e → is_marked mark ts es q ≡ mark e
  marked_at [] es p q e d at is = absurd cc
  marked_at (t ∷ ts) [] p q e d at is = absurd cc
  marked_at (t ∷ ts) (f ∷ es) zero q e d at is =
      let same : t ≡ q = same_item t q at in
      let none : list_any (bytes_eq q) ts ≡ false = ap (λ u. list_any (bytes_eq u) ts) (sym same) ∙ absent_from t ts (head_apart t ts d) in
      ap (λ b. (b && mark f) || is_marked mark ts es q) ((bytes_eq-Decides q t).1 (sym same))
      ∙ ap (λ b. mark f || b) (marked_none ts es q none)
      ∙ or_false (mark f)
      ∙ ap mark (same_item f e is)
  marked_at (t ∷ ts) (f ∷ es) (suc p) q e d at is =
      ap (λ b. (b && mark f) || is_marked mark ts es q) (bytes_sym t q (apart_at t ts p q (head_apart t ts d) at))
      ∙ marked_at ts es p q e (tail_distinct t ts d) at is

  -- a mark more
  pub marked_set : (ts : List (List ℕ)) (es : List Entry) (p : ℕ) (t : List ℕ) (e : Entry) (q : List ℕ) → slice_get ts p ≡ Some t → p < length es → mark e ≡ true
      → is_marked mark ts (slice_set es p e) q ≡ (is_marked mark ts es q || bytes_eq q t)
  marked_set [] es p t e q at within is = absurd cc
  marked_set (u ∷ ts) [] p t e q at within is = let no : ⊥ = omega (arith, within) in absurd no
  marked_set (u ∷ ts) (f ∷ es) zero t e q at within is =
      ap (λ b. (bytes_eq q u && b) || is_marked mark ts es q) is
      ∙ by (bytes_eq q u) (mark f) (is_marked mark ts es q)
      ∙ ap (λ v. ((bytes_eq q u && mark f) || is_marked mark ts es q) || bytes_eq q v) (same_item u t at)
    where
      by : (a b c : Bool) → ((a && true) || c) ≡ (((a && b) || c) || a)
      by true true c = refl
      by true false true = refl
      by true false false = refl
      by false b true = refl
      by false b false = refl
  marked_set (u ∷ ts) (f ∷ es) (suc p) t e q at within is =
      ap (λ b. (bytes_eq q u && mark f) || b) (marked_set ts es p t e q at (omega (arith, within)) is)
      ∙ by (bytes_eq q u && mark f) (is_marked mark ts es q) (bytes_eq q t)
    where
      by : (a b c : Bool) → (a || (b || c)) ≡ ((a || b) || c)
      by true b c = refl
      by false b c = refl

  -- none more
  pub marked_same : (ts : List (List ℕ)) (es : List Entry) (p : ℕ) (e d : Entry) (q : List ℕ) → mark e ≡ mark (slice_index_or es p d) → is_marked mark ts (slice_set es p e) q ≡ is_marked mark ts es q
  marked_same [] es p e d q is = refl
  marked_same (t ∷ ts) [] p e d q is = refl
  marked_same (t ∷ ts) (f ∷ es) zero e d q is = ap (λ b. (bytes_eq q t && b) || is_marked mark ts es q) is
  marked_same (t ∷ ts) (f ∷ es) (suc p) e d q is = ap (λ b. (bytes_eq q t && mark f) || b) (marked_same ts es p e d q is)

  -- one more text, which isn't marked
  pub marked_push : (ts : List (List ℕ)) (es : List Entry) (t : List ℕ) (e : Entry) (q : List ℕ) → length es ≡ length ts → mark e ≡ false
      → is_marked mark (ts ++ t ∷ []) (es ++ e ∷ []) q ≡ is_marked mark ts es q
  marked_push [] [] t e q size is = ap (λ b. (bytes_eq q t && b) || false) is ∙ by (bytes_eq q t)
    where
      by : (a : Bool) → ((a && false) || false) ≡ false
      by true = refl
      by false = refl
  marked_push [] (f ∷ es) t e q size is = let no : ⊥ = omega (arith, size) in absurd no
  marked_push (u ∷ ts) [] t e q size is = let no : ⊥ = omega (arith, size) in absurd no
  marked_push (u ∷ ts) (f ∷ es) t e q size is = ap (λ b. (bytes_eq q u && mark f) || b) (marked_push ts es t e q (omega (arith, size)) is)

  -- nothing is marked
  pub marked_nothing : (ts : List (List ℕ)) (n : ℕ) (e : Entry) (q : List ℕ) → mark e ≡ false → is_marked mark ts (replicate n e) q ≡ false
  marked_nothing [] n e q is = refl
  marked_nothing (t ∷ ts) zero e q is = refl
  marked_nothing (t ∷ ts) (suc n) e q is = ap (λ b. (bytes_eq q t && b) || is_marked mark ts (replicate n e) q) is ∙ by (bytes_eq q t) (is_marked mark ts (replicate n e) q) (marked_nothing ts n e q is)
    where
      by : (a b : Bool) → b ≡ false → ((a && false) || b) ≡ false
      by true b h = h
      by false b h = h

pub place_last : (ts : List (List ℕ)) (t : List ℕ) (p : ℕ) → p ≡ length ts → slice_get (ts ++ t ∷ []) p ≡ Some t
place_last ts t p e = ap (slice_get (ts ++ t ∷ [])) e ∙ by ts
  where
    by : (us : List (List ℕ)) → slice_get (us ++ t ∷ []) (length us) ≡ Some t
    by [] = refl
    by (u ∷ us) = by us

-- an entry at a place
pub entry_at : (es : List Entry) (p : ℕ) (d : Entry) → p < length es → slice_get es p ≡ Some (slice_index_or es p d)
entry_at es p d h = slice_get-get_or es p d h

pub within_entries : (ts : List (List ℕ)) (es : List Entry) (p : ℕ) (t : List ℕ) → length es ≡ length ts → slice_get ts p ≡ Some t → p < length es
within_entries ts es p t size at = let h = slice_get_within ts p t at in omega (arith, size, h)

module _ (ts0 ts : List (List ℕ)) (es0 es : List Entry) (marks : (mark : Entry → Bool) → mark nothing ≡ false → (q : List ℕ) → is_marked mark ts es q ≡ is_marked mark ts0 es0 q) where
  -- names that stand for nothing change no mark
  pub still_marked : (mark : Entry → Bool) → mark nothing ≡ false → is_marked mark ts es ≡ is_marked mark ts0 es0
  still_marked mark none = λ j q. marks mark none q j

  pub still_table : (ws : List WordText) → IsTable ts0 es0 ws → length es ≡ length ts → IsTable ts es ws
  still_table ws was size = record { size = size; are_tokens = still_marked (λ (e : Entry). e.is_token) refl ∙ was.are_tokens }

  module _ (p : ℕ) (t : List ℕ) (e : Entry) where
    -- a mark more, and the others
    pub one_marked : (mark : Entry → Bool) (w : WordText) → mark nothing ≡ false → w.text ≡ t → slice_get ts p ≡ Some t → p < length es → mark e ≡ true
        → is_marked mark ts (slice_set es p e) ≡ (λ q. is_marked mark ts0 es0 q || is_named q w)
    one_marked mark w none name at within is =
        λ j q. (marked_set mark ts es p t e q at within is ∙ ap (λ b. b || bytes_eq q t) (marks mark none q) ∙ ap (λ u. is_marked mark ts0 es0 q || bytes_eq q u) (sym name)) j

    pub none_marked : (mark : Entry → Bool) (d : Entry) → mark nothing ≡ false → mark e ≡ mark (slice_index_or es p d) → is_marked mark ts (slice_set es p e) ≡ is_marked mark ts0 es0
    none_marked mark d none is = λ j q. (marked_same mark ts es p e d q is ∙ marks mark none q) j

    -- where no token is marked, and where one is
    pub kept_table : (d : Entry) (ws : List WordText) → IsTable ts0 es0 ws → length es ≡ length ts → e.is_token ≡ (slice_index_or es p d).is_token → IsTable ts (slice_set es p e) ws
    kept_table d ws was size is = record { size = length-set es p e ∙ size; are_tokens = none_marked (λ (f : Entry). f.is_token) d refl is ∙ was.are_tokens }

    pub more_table : (ws : List WordText) (w : WordText) → IsTable ts0 es0 ws → length es ≡ length ts → w.text ≡ t → slice_get ts p ≡ Some t → e.is_token ≡ true
        → IsTable ts (slice_set es p e) (with_distinct ws w)
    more_table ws w was size name at is = record {
      size = length-set es p e ∙ size;
      are_tokens =
          one_marked (λ (f : Entry). f.is_token) w refl name at (within_entries ts es p t size at) is
          ∙ (λ j q. was.are_tokens j q || is_named q w)
          ∙ sym (λ j q. among_more ws w q j);
    }
