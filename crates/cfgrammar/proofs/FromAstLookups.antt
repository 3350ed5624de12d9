-- Look-ups in maps by names, against the lists that the maps are seen as.
use Rattle.std.proofs.Common.{◌≡◌, ℕ, suc, ◌+◌, ◌<◌, ◌||◌, Bool, true, false, not, cond, ltb, List, [], ◌∷◌, ◌++◌, length, map, take, get_or, slice_get, Option, Some, None, is_some, IsSome, option_map, All, Contains, refl, sym, ap, ◌∙◌, subst, arith}
use Rattle.std.specs.List.{list_any, find, position, position_or_len}
use Rattle.std.specs.Map.{lookup}
use Rattle.std.specs.Str.{bytes_eq}
use Rattle.std.specs.String.{string_bytes}
use Rattle.std.specs.declared.alloc.Global.{Global}
use Rattle.std.specs.declared.string.String.{String}
use Rattle.std.proofs.lemmas.Bool.{lt-ltb}
use Rattle.std.proofs.lemmas.List.{length-map, take_more}
use Rattle.std.proofs.lemmas.Option.{slice_get-get_or, slice_get-map, slice_get_within, get_or_from_slice_get}
use Rattle.cfgrammar.specs.FromAst.{index_in}
use Rattle.cfgrammar.proofs.FromAstNames.{index_in_within}

pub map_twice : {A B C : Type 0} (f : A → B) (g : B → C) (xs : List A) → map g (map f xs) ≡ map (λ x. g (f x)) xs
map_twice f g [] = refl
map_twice f g (x ∷ xs) = λ i. g (f x) ∷ map_twice f g xs i

-- whether a name is that of a key
abbrev pub is_key : List ℕ → String Global → Bool
is_key q k = bytes_eq q (string_bytes k)

module _ {X : Type 0} where
  abbrev pub key_text : String Global × X → List ℕ
  key_text e = string_bytes e.0

  -- where the first key of this name stands
  key_place : (es : List (String Global × X)) (q : List ℕ) → position_or_len (is_key q) (map (λ (e : String Global × X). e.0) es) ≡ index_in (map key_text es) q
  key_place [] q = refl
  key_place (e ∷ es) q = by (bytes_eq q (string_bytes e.0)) (key_place es q)
    where
      by : (b : Bool) → position_or_len (is_key q) (map (λ (e : String Global × X). e.0) es) ≡ index_in (map key_text es) q
          → cond (not b) (1 + position_or_len (is_key q) (map (λ (e : String Global × X). e.0) es)) 0 ≡ cond (not b) (1 + index_in (map key_text es) q) 0
      by true h = refl
      by false h = ap (λ n. 1 + n) h

  pub found_place : (es : List (String Global × X)) (q : List ℕ) → Contains (map key_text es) q → position (is_key q) (map (λ (e : String Global × X). e.0) es) ≡ Some (index_in (map key_text es) q)
  found_place es q h =
      let key : String Global × X → String Global = λ e. e.0 in
      let lt = index_in_within (map key_text es) q h in
      let in_texts = length-map es key_text in
      let in_keys = length-map es key in
      ap (λ n. cond (ltb n (length (map key es))) (Some n) None) (key_place es q)
      ∙ ap (λ (b : Bool). cond b (Some (index_in (map key_text es) q)) None) (lt-ltb (index_in (map key_text es) q) (length (map key es)) (omega (arith, lt, in_texts, in_keys)))

  -- what stands under a name
  pub found_find : {Y Z : Type 0} (f : String Global × X → Y) (name : Y → List ℕ) (g : X → Z) (h : Y → Z) → ((e : String Global × X) → name (f e) ≡ string_bytes e.0) → ((e : String Global × X) → h (f e) ≡ g e.1)
      → (es : List (String Global × X)) (q : List ℕ) → option_map g (lookup (is_key q) es) ≡ option_map h (find (λ (y : Y). bytes_eq q (name y)) (map f es))
  found_find {Y} {Z} f name g h named same [] q = refl
  found_find {Y} {Z} f name g h named same (e ∷ es) q =
      by (bytes_eq q (string_bytes e.0)) (found_find f name g h named same es q)
      ∙ ap (λ (t : List ℕ). option_map h (cond (bytes_eq q t) (Some (f e)) (find (λ (y : Y). bytes_eq q (name y)) (map f es)))) (sym (named e))
    where
      by : (b : Bool) → option_map g (lookup (is_key q) es) ≡ option_map h (find (λ (y : Y). bytes_eq q (name y)) (map f es))
          → option_map g (cond b (Some e.1) (lookup (is_key q) es)) ≡ option_map h (cond b (Some (f e)) (find (λ (y : Y). bytes_eq q (name y)) (map f es)))
      by true rest = ap Some (sym (same e))
      by false rest = rest

  -- whether a name is there
  pub found_any : {Y : Type 0} (f : String Global × X → Y) (name : Y → List ℕ) → ((e : String Global × X) → name (f e) ≡ string_bytes e.0)
      → (es : List (String Global × X)) (q : List ℕ) → is_some (lookup (is_key q) es) ≡ list_any (λ (y : Y). bytes_eq q (name y)) (map f es)
  found_any {Y} f name named [] q = refl
  found_any {Y} f name named (e ∷ es) q =
      by (bytes_eq q (string_bytes e.0)) (found_any f name named es q)
      ∙ ap (λ (t : List ℕ). bytes_eq q t || list_any (λ (y : Y). bytes_eq q (name y)) (map f es)) (sym (named e))
    where
      by : (b : Bool) → is_some (lookup (is_key q) es) ≡ list_any (λ (y : Y). bytes_eq q (name y)) (map f es)
          → is_some (cond b (Some e.1) (lookup (is_key q) es)) ≡ (b || list_any (λ (y : Y). bytes_eq q (name y)) (map f es))
      by true rest = refl
      by false rest = rest

pub some_of : {X : Type 0} {o : Option X} (x : X) → o ≡ Some x → IsSome o
some_of x e = subst IsSome (sym e) refl

pub one_more : (n : ℕ) → n + 1 ≡ suc n
one_more n = omega arith

-- one more of a list
pub take_next : {X : Type 0} (xs : List X) (k : ℕ) (x : X) → slice_get xs k ≡ Some x → take (k + 1) xs ≡ take k xs ++ x ∷ []
take_next xs k x at = take_more xs k x (slice_get_within xs k x at) ∙ ap (λ y. take k xs ++ y ∷ []) (get_or_from_slice_get xs k x x at)

-- an entry of a map, as it is seen
pub entry_at : {X Y Z : Type 0} (f : String Global × X → Y) (g : Y → Z) (es : List (String Global × X)) (ys : List Y) (k : ℕ) (o : Option (String Global × X)) (e : String Global × X)
    → map f es ≡ ys → o ≡ slice_get es k → o ≡ Some e → slice_get (map g ys) k ≡ Some (g (f e))
entry_at f g es ys k o e same found is =
    slice_get-map g ys k
    ∙ ap (λ zs. option_map g (slice_get zs k)) (sym same)
    ∙ ap (option_map g) (slice_get-map f es k ∙ ap (option_map f) (sym found ∙ is))

pub entry_in : {X Y : Type 0} (f : String Global × X → Y) (es : List (String Global × X)) (ys : List Y) (k : ℕ) (o : Option (String Global × X)) (e : String Global × X)
    → map f es ≡ ys → o ≡ slice_get es k → o ≡ Some e → slice_get ys k ≡ Some (f e)
entry_in f es ys k o e same found is = ap (λ zs. slice_get zs k) (sym same) ∙ slice_get-map f es k ∙ ap (option_map f) (sym found ∙ is)

pub all_at : {X : Type 0} (P : X → Type 0) (xs : List X) (k : ℕ) (x : X) → All P xs → slice_get xs k ≡ Some x → P x
all_at P xs k x h at = subst P (get_or_from_slice_get xs k x x at) (h k x (slice_get_within xs k x at))

-- what stands within a list, whatever is put past it
pub get_or_any : {X : Type 0} (xs : List X) (k : ℕ) (d e : X) → k < length xs → get_or xs k d ≡ get_or xs k e
get_or_any xs k d e lt = sym (get_or_from_slice_get xs k (get_or xs k d) e (slice_get-get_or xs k d lt))
