-- Names in the order of their numbers, with what stands beside each.
use Rattle.std.proofs.Common.{◌≡◌, ℕ, zero, suc, ◌≤◌, Bool, false, ◌||◌, List, [], ◌∷◌, ◌++◌, length, take, Option, Some, None, if◌then◌else◌, refl, sym, ap, ◌∙◌, subst, arith}
use Rattle.std.specs.Prelude.{map, option_map, slice_get}
use Rattle.std.specs.List.{list_any}
use Rattle.std.specs.Str.{bytes_eq}
use Rattle.std.specs.String.{string_bytes, string_eq}
use Rattle.std.specs.declared.alloc.Global.{Global}
use Rattle.std.specs.declared.string.String.{String}
use Rattle.std.proofs.lemmas.Option.{slice_get-map, none-some}
use Rattle.indexmap.specs.IndexMap.{insert_entry}
use Rattle.std.proofs.lemmas.List.{map-append}
use Rattle.cfg_read.specs.SyntaxTexts.{WordText}
use Rattle.cfg_read.specs.Asts.{Ast}
use Rattle.cfg_read.specs.Names.{texts}
use Rattle.cfg_read.specs.WellFormedAst.{AreDistinct, names_of_tokens}
use Rattle.cfg_numbered.specs.Value.{TokenFacts}
use Rattle.cfgrammar.specs.FromAst.{file_token_facts}
use Rattle.cfg_numbered.proofs.Named.{fresh_in, or_left, or_right}

-- no entry has the name
abbrev pub IsFree : {X : Type 0} → List (String Global × X) → List ℕ → Type 0
IsFree es q = list_any (λ e. bytes_eq q (string_bytes e.0)) es ≡ false

-- a new name goes last
pub put_behind : {X : Type 0} (es : List (String Global × X)) (k : String Global) (x : X) → IsFree es (string_bytes k) → insert_entry string_eq es k x ≡ es ++ (k, x) ∷ []
put_behind [] k x h = refl
put_behind (e ∷ es) k x h =
    let apart : string_eq k e.0 ≡ false = or_left (bytes_eq (string_bytes k) (string_bytes e.0)) (list_any (λ e. bytes_eq (string_bytes k) (string_bytes e.0)) es) h in
    let rest = put_behind es k x (or_right (bytes_eq (string_bytes k) (string_bytes e.0)) (list_any (λ e. bytes_eq (string_bytes k) (string_bytes e.0)) es) h) in
    ap (λ (b : Bool). if b then (e.0, x) ∷ es else e ∷ insert_entry string_eq es k x) apart ∙ ap (λ l. e ∷ l) rest

-- the entries of a name that isn't there, and of one more that differs
pub any_names : {X F : Type 0} (view : String Global × X → F) (name : F → List ℕ) (is : (e : String Global × X) → name (view e) ≡ string_bytes e.0) (q : List ℕ) (es : List (String Global × X)) → list_any (λ e. bytes_eq q (string_bytes e.0)) es ≡ list_any (bytes_eq q) (map name (map view es))
any_names view name is q [] = refl
any_names view name is q (e ∷ es) = ap (λ n. bytes_eq q n || list_any (λ e. bytes_eq q (string_bytes e.0)) es) (sym (is e)) ∙ ap (λ b. bytes_eq q (name (view e)) || b) (any_names view name is q es)

-- what stands in the first of two lists, and behind it
pub get_left : {X : Type 0} (xs ys : List X) (i : ℕ) (x : X) → slice_get xs i ≡ Some x → slice_get (xs ++ ys) i ≡ Some x
get_left [] ys i x e = absurd (none-some x e)
get_left (z ∷ xs) ys zero x e = e
get_left (z ∷ xs) ys (suc i) x e = get_left xs ys i x e

pub get_behind : {X : Type 0} (xs : List X) (y : X) (ys : List X) → slice_get (xs ++ y ∷ ys) (length xs) ≡ Some y
get_behind [] y ys = refl
get_behind (x ∷ xs) y ys = get_behind xs y ys

pub get_second : {X : Type 0} (xs : List X) (y z : X) (ys : List X) → slice_get (xs ++ y ∷ z ∷ ys) (suc (length xs)) ≡ Some z
get_second [] y z ys = refl
get_second (x ∷ xs) y z ys = get_second xs y z ys

pub take_left : {X : Type 0} (xs ys : List X) → take (length xs) (xs ++ ys) ≡ xs
take_left [] ys = refl
take_left (x ∷ xs) ys = ap (λ l. x ∷ l) (take_left xs ys)

-- where entries are seen as the first of some facts whose names are distinct, the name of a later one isn't there
module _ {X F : Type 0} (view : String Global × X → F) (name : F → List ℕ) (is : (e : String Global × X) → name (view e) ≡ string_bytes e.0) where
  pub later_is_free : (facts : List F) → AreDistinct (map name facts) → (es : List (String Global × X)) (k i : ℕ) (f : F) → map view es ≡ take k facts → k ≤ i → slice_get facts i ≡ Some f → IsFree es (name f)
  later_is_free facts apart es k i f seen le at =
      any_names view name is (name f) es
      ∙ ap (λ l. list_any (bytes_eq (name f)) (map name l)) seen
      ∙ fresh_in name facts k (name f) (λ j lt e. let same = apart j i (name f) (slice_get-map name facts j ∙ e) (slice_get-map name facts i ∙ ap (option_map name) at) in absurd (omega (arith, lt, le, same)))

-- a name that isn't there isn't there behind one that differs
free_push : (q : List ℕ) (xs : List (List ℕ)) (y : List ℕ) → list_any (bytes_eq q) xs ≡ false → bytes_eq q y ≡ false → list_any (bytes_eq q) (xs ++ y ∷ []) ≡ false
free_push q [] y h apart = ap (λ b. b || false) apart
free_push q (x ∷ xs) y h apart =
    ap (λ b. b || list_any (bytes_eq q) (xs ++ y ∷ [])) (or_left (bytes_eq q x) (list_any (bytes_eq q) xs) h)
    ∙ free_push q xs y (or_right (bytes_eq q x) (list_any (bytes_eq q) xs) h) apart

pub free_after : {X F : Type 0} (view : String Global × X → F) (name : F → List ℕ) (is : (e : String Global × X) → name (view e) ≡ string_bytes e.0) (old new : List (String Global × X)) (q : List ℕ) (f : F)
    → IsFree old q → map view new ≡ map view old ++ f ∷ [] → bytes_eq q (name f) ≡ false → IsFree new q
free_after view name is old new q f free seen apart =
    any_names view name is q new
    ∙ ap (λ l. list_any (bytes_eq q) (map name l)) seen
    ∙ ap (list_any (bytes_eq q)) (map-append name (map view old) (f ∷ []))
    ∙ free_push q (map name (map view old)) (name f) (sym (any_names view name is q old) ∙ free) apart

-- the names of the text's tokens
abbrev pub token_text : TokenFacts → List ℕ
token_text k = option_or_default k.name
  where
    option_or_default : Option (List ℕ) → List ℕ
    option_or_default None = []
    option_or_default (Some n) = n

pub token_texts : (ast : Ast) (ws : List WordText) → map token_text (map (file_token_facts ast) ws) ≡ texts ws
token_texts ast [] = refl
token_texts ast (w ∷ ws) = ap (λ l. w.text ∷ l) (token_texts ast ws)

pub tokens_apart : (ast : Ast) → AreDistinct (names_of_tokens ast) → AreDistinct (map token_text (map (file_token_facts ast) ast.tokens))
tokens_apart ast h = subst AreDistinct (sym (token_texts ast ast.tokens)) h
