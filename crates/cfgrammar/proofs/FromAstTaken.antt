-- Names that are taken over one after another: what is made of those so far, and what is left.
use Rattle.std.proofs.Common.{◌≡◌, ℕ, zero, suc, ◌+◌, Bool, true, false, List, [], ◌∷◌, ◌++◌, length, map, take, get_or, slice_get, Some, option_map, All, refl, sym, ap, ◌∙◌, arith, append_assoc}
use Rattle.std.specs.Str.{bytes_eq}
use Rattle.std.specs.String.{string_bytes}
use Rattle.std.specs.declared.alloc.Global.{Global}
use Rattle.std.specs.declared.string.String.{String}
use Rattle.std.proofs.lemmas.List.{map-append}
use Rattle.std.proofs.lemmas.Option.{slice_get-get_or, slice_get-map}
use Rattle.std.proofs.lemmas.Slice.Eq.{bytes_eq-Decides}
use Rattle.cfg_read.specs.WellFormedAst.{AreDistinct}
use Rattle.cfgrammar.proofs.ByName.{IsFree, later_is_free, get_behind, get_second, take_left}

-- what stands in the second of two lists
get_right : {X : Type 0} (xs ys : List X) (i n : ℕ) → n ≡ length xs + i → slice_get (xs ++ ys) n ≡ slice_get ys i
get_right [] ys i n e = ap (slice_get ys) (let z : n ≡ i = omega (arith, e) in z)
get_right (x ∷ xs) ys i zero e = absurd (omega (arith, e))
get_right (x ∷ xs) ys i (suc n) e = get_right xs ys i n (omega (arith, e))

module _ {X F : Type 0} (view : String Global × X → F) where
  -- one more is made
  pub one_taken : (es : List (String Global × X)) (x : String Global × X) (f : F) (rest : List F) → view x ≡ f → map view (es ++ x ∷ []) ++ rest ≡ map view es ++ f ∷ rest
  one_taken es x f rest e =
      ap (λ l. l ++ rest) (map-append view es (x ∷ []))
      ∙ append_assoc (map view es) (view x ∷ []) rest
      ∙ ap (λ g. map view es ++ g ∷ rest) e

  -- the next of all
  pub next_of : (facts : List F) (es : List (String Global × X)) (f : F) (rest : List F) → map view es ++ f ∷ rest ≡ facts → slice_get facts (length (map view es)) ≡ Some f
  next_of facts es f rest whole = sym (ap (λ l. slice_get l (length (map view es))) whole) ∙ get_behind (map view es) f rest

  -- its name isn't there yet, where all names are distinct
  pub next_is_free : (name : F → List ℕ) → ((e : String Global × X) → name (view e) ≡ string_bytes e.0) → (facts : List F) → AreDistinct (map name facts) → (es : List (String Global × X)) (f : F) (rest : List F) → map view es ++ f ∷ rest ≡ facts → IsFree es (name f)
  next_is_free name is facts apart es f rest whole =
      let n = length (map view es) in
      later_is_free view name is facts apart es n n f (sym (take_left (map view es) (f ∷ rest)) ∙ ap (take n) whole) (omega arith) (next_of facts es f rest whole)

  -- nor is that of the one behind it
  pub second_is_free : (name : F → List ℕ) → ((e : String Global × X) → name (view e) ≡ string_bytes e.0) → (facts : List F) → AreDistinct (map name facts) → (es : List (String Global × X)) (f g : F) (rest : List F) → map view es ++ f ∷ g ∷ rest ≡ facts → IsFree es (name g)
  second_is_free name is facts apart es f g rest whole =
      let n = length (map view es) in
      later_is_free view name is facts apart es n (suc n) g (sym (take_left (map view es) (f ∷ g ∷ rest)) ∙ ap (take n) whole) (omega arith) (sym (ap (λ l. slice_get l (suc n)) whole) ∙ get_second (map view es) f g rest)

-- those that are left have other names than the next
pub others_differ : {F X Y : Type 0} (name : F → List ℕ) (of : Y → F) (seen : String Global × X → Y) → ((e : String Global × X) → name (of (seen e)) ≡ string_bytes e.0) → (facts done : List F) (x : String Global × X) (rest : List (String Global × X)) → AreDistinct (map name facts)
    → done ++ of (seen x) ∷ map of (map seen rest) ≡ facts → All (λ e. bytes_eq (string_bytes x.0) (string_bytes e.0) ≡ false) rest
others_differ {F} {X} {Y} name of seen is facts done x rest apart whole n d lt = by (bytes_eq (string_bytes x.0) (string_bytes (get_or rest n d).0)) refl
  where
    at : (i : ℕ) (f : F) → slice_get (done ++ of (seen x) ∷ map of (map seen rest)) i ≡ Some f → slice_get (map name facts) i ≡ Some (name f)
    at i f e = slice_get-map name facts i ∙ ap (option_map name) (sym (ap (λ l. slice_get l i) whole) ∙ e)

    here : slice_get (map name facts) (length done) ≡ Some (string_bytes x.0)
    here = at (length done) (of (seen x)) (get_behind done (of (seen x)) (map of (map seen rest))) ∙ ap Some (is x)

    left : slice_get (map of (map seen rest)) n ≡ Some (of (seen (get_or rest n d)))
    left = slice_get-map of (map seen rest) n ∙ ap (option_map of) (slice_get-map seen rest n ∙ ap (option_map seen) (slice_get-get_or rest n d lt))

    there : slice_get (map name facts) (length done + suc n) ≡ Some (string_bytes (get_or rest n d).0)
    there = at (length done + suc n) (of (seen (get_or rest n d))) (get_right done (of (seen x) ∷ map of (map seen rest)) (suc n) (length done + suc n) refl ∙ left) ∙ ap Some (is (get_or rest n d))

    by : (b : Bool) → bytes_eq (string_bytes x.0) (string_bytes (get_or rest n d).0) ≡ b → b ≡ false
    by true e =
        let same = (bytes_eq-Decides (string_bytes x.0) (string_bytes (get_or rest n d).0)).0 e in
        let stands = apart (length done) (length done + suc n) (string_bytes (get_or rest n d).0) (here ∙ ap Some same) there in
        absurd (omega (arith, stands))
    by false e = refl
