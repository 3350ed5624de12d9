-- Texts at their places, among others that differ.
use Rattle.std.proofs.Common.{◌≡◌, ℕ, zero, suc, ◌+◌, Bool, true, false, ◌||◌, List, [], ◌∷◌, ◌++◌, length, slice_get, slice_index_or, cond, not, if◌then◌else◌, Option, None, Some, IfSome, option_map, refl, sym, ap, ◌∙◌, arith}
use Rattle.std.specs.List.{list_any, position, position_or_len, AllByRecursion, IsDistinct}
use Rattle.std.specs.Str.{bytes_eq}
use Rattle.std.proofs.lemmas.List.{map-append, length-map}
use Rattle.std.proofs.lemmas.List.Quantifiers.{position-Some}
use Rattle.std.proofs.lemmas.Option.{slice_get-map, slice_get-get_or}
use Rattle.std.proofs.lemmas.Slice.Eq.{bytes_eq-Decides}
use Rattle.cfg_read.specs.declared.yacc.name.Name.{Name}
use Rattle.cfg_read.specs.NameTexts.{name_text, texts_of, same_text}
use Rattle.cfg_read.proofs.NameLemmas.{any_map}
use Rattle.cfg_read.proofs.Grouping.{or_left, or_right}

-- those that differ by where they lie differ as texts
apart_texts : (k : Name) (ks : List Name) → AllByRecursion (λ y. same_text k y ≡ false) ks → AllByRecursion (λ t. bytes_eq (name_text k) t ≡ false) (texts_of ks)
apart_texts k [] d = tt
apart_texts k (y ∷ ks) d = (d.0, apart_texts k ks d.1)

pub distinct_texts : (ks : List Name) → IsDistinct same_text ks → IsDistinct bytes_eq (texts_of ks)
unfolding IsDistinct
distinct_texts [] d = tt
distinct_texts (k ∷ ks) d = (apart_texts k ks d.0, distinct_texts ks d.1)

-- the place that a look-up answers
pub place_found : (ks : List Name) (q : List ℕ) (o : Option ℕ) → o ≡ position (λ (k : Name). bytes_eq q (name_text k)) ks → IfSome o (λ p. slice_get (texts_of ks) p ≡ Some q)
place_found ks q None e = tt
place_found [] q (Some p) e = absurd cc
place_found (k ∷ ks) q (Some p) e =
    let s = position-Some (λ (x : Name). bytes_eq q (name_text x)) (k ∷ ks) p k (sym e) in
    slice_get-map name_text (k ∷ ks) p
    ∙ ap (option_map name_text) (slice_get-get_or (k ∷ ks) p k s.0)
    ∙ ap Some (sym ((bytes_eq-Decides q (name_text (slice_index_or (k ∷ ks) p k))).0 s.1))

pub is_there : (ks : List Name) (q : List ℕ) → list_any (λ (k : Name). bytes_eq q (name_text k)) ks ≡ list_any (bytes_eq q) (texts_of ks)
is_there ks q = sym (any_map name_text (bytes_eq q) ks)

-- a text that stands at a place is there
pub any_at : (ts : List (List ℕ)) (p : ℕ) (q : List ℕ) → slice_get ts p ≡ Some q → list_any (bytes_eq q) ts ≡ true
any_at [] p q h = absurd cc
any_at (t ∷ ts) zero q h = ap (λ b. b || list_any (bytes_eq q) ts) ((bytes_eq-Decides q t).1 (sym (same t q h)))
  where
    same : (t q : List ℕ) → Some t ≡ Some q → t ≡ q
    same t q e = cc
any_at (t ∷ ts) (suc p) q h = by (bytes_eq q t) (any_at ts p q h)
  where
    by : (b : Bool) → list_any (bytes_eq q) ts ≡ true → (b || list_any (bytes_eq q) ts) ≡ true
    by true e = refl
    by false e = e

-- one that isn't there would stand behind all
pub past_all : {A : Type 0} (test : A → Bool) (xs : List A) → list_any test xs ≡ false → position_or_len test xs ≡ length xs
past_all test [] h = refl
past_all test (x ∷ xs) h =
    let rest = past_all test xs (or_right (test x) (list_any test xs) h) in
    let next : 1 + length xs ≡ suc (length xs) = omega arith in
    ap (λ (b : Bool). cond (not b) (1 + position_or_len test xs) 0) (or_left (test x) (list_any test xs) h) ∙ ap (λ (n : ℕ). 1 + n) rest ∙ next

pub absent : (ks : List Name) (k : Name) (q : List ℕ) → name_text k ≡ q → list_any (bytes_eq q) (texts_of ks) ≡ false → list_any (same_text k) ks ≡ false
absent ks k q same new = is_there ks (name_text k) ∙ ap (λ t. list_any (bytes_eq t) (texts_of ks)) same ∙ new

-- and is put there
pub put_last : (ks : List Name) (k : Name) (q : List ℕ) → name_text k ≡ q → list_any (bytes_eq q) (texts_of ks) ≡ false
    → texts_of (if list_any (same_text k) ks then ks else ks ++ k ∷ []) ≡ texts_of ks ++ q ∷ []
put_last ks k q same new =
    ap (λ (b : Bool). texts_of (if b then ks else ks ++ k ∷ [])) (absent ks k q same new)
    ∙ map-append name_text ks (k ∷ []) ∙ ap (λ t. texts_of ks ++ t ∷ []) same

pub last_place : (ks : List Name) (k : Name) (q : List ℕ) → name_text k ≡ q → list_any (bytes_eq q) (texts_of ks) ≡ false
    → position_or_len (same_text k) ks ≡ length (texts_of ks)
last_place ks k q same new = past_all (same_text k) ks (absent ks k q same new) ∙ sym (length-map ks name_text)
