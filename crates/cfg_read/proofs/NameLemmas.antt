-- Names looked up in a set of them are those of the words that it was made of.
use Rattle.std.proofs.Common.{◌≡◌, ℕ, Bool, true, false, ◌||◌, List, [], ◌∷◌, ◌++◌, map, fold, if◌then◌else◌, refl, sym, ap, ◌∙◌, subst, Bor}
use Rattle.std.specs.List.{list_any}
use Rattle.std.specs.Str.{bytes_eq}
use Rattle.std.proofs.lemmas.List.Folds.{list_any-append}
use Rattle.std.proofs.lemmas.List.Sums.{fold_push}
use Rattle.std.proofs.lemmas.List.{map-append}
use Rattle.std.proofs.lemmas.Slice.Eq.{bytes_eq-Decides}
use Rattle.cfg_read.specs.SyntaxTexts.{WordText}
use Rattle.cfg_read.specs.Names.{is_named, is_among, with_distinct, distinct, texts}

pub any_map : {A B : Type 0} (f : A → B) (p : B → Bool) → (xs : List A) → list_any p (map f xs) ≡ list_any (λ x. p (f x)) xs
any_map f p [] = refl
any_map f p (x ∷ xs) = ap (λ b. p (f x) || b) (any_map f p xs)

pub or_false : (b : Bool) → (b || false) ≡ b
or_false true = refl
or_false false = refl

pub or_assoc : (a b c : Bool) → ((a || b) || c) ≡ (a || (b || c))
or_assoc true b c = refl
or_assoc false b c = refl

pub or_absorbs : (a b : Bool) → (b ≡ true → a ≡ true) → a ≡ (a || b)
or_absorbs true b h = refl
or_absorbs false true h = h refl
or_absorbs false false h = refl

-- one more word
pub among_more : (acc : List WordText) (w : WordText) (q : List ℕ) → is_among (with_distinct acc w) q ≡ (is_among acc q || is_named q w)
among_more acc w q = by (is_among acc w.text) refl
  where
    by : (b : Bool) → is_among acc w.text ≡ b → is_among (if b then acc else acc ++ w ∷ []) q ≡ (is_among acc q || is_named q w)
    by true e = or_absorbs (is_among acc q) (is_named q w) (λ h. subst (λ t. is_among acc t ≡ true) (sym ((bytes_eq-Decides q w.text).0 h)) e)
    by false e = list_any-append (is_named q) acc (w ∷ []) ∙ ap (λ b. is_among acc q || b) (or_false (is_named q w))

among_all : (acc ws : List WordText) (q : List ℕ) → is_among (fold with_distinct acc ws) q ≡ (is_among acc q || is_among ws q)
among_all acc [] q = sym (or_false (is_among acc q))
among_all acc (w ∷ ws) q = among_all (with_distinct acc w) ws q ∙ ap (λ b. b || is_among ws q) (among_more acc w q) ∙ or_assoc (is_among acc q) (is_named q w) (is_among ws q)

pub among_distinct : (ws : List WordText) (q : List ℕ) → is_among (distinct ws) q ≡ is_among ws q
among_distinct ws q = among_all [] ws q

-- the set with one more name
pub names_step : (keys : List (Bor (List ℕ))) (ws : List WordText) (k : Bor (List ℕ)) (w : WordText) → map (λ (x : Bor (List ℕ)). x.now) keys ≡ texts (distinct ws) → k.now ≡ w.text
    → map (λ (x : Bor (List ℕ)). x.now) (if list_any (λ (y : Bor (List ℕ)). bytes_eq k.now y.now) keys then keys else keys ++ k ∷ []) ≡ texts (distinct (ws ++ w ∷ []))
names_step keys ws k w same name =
    by (list_any (λ (y : Bor (List ℕ)). bytes_eq k.now y.now) keys) (is_among (distinct ws) w.text) tests
    ∙ sym (ap texts (fold_push with_distinct [] ws w))
  where
    tests : list_any (λ (y : Bor (List ℕ)). bytes_eq k.now y.now) keys ≡ is_among (distinct ws) w.text
    tests = sym (any_map (λ (x : Bor (List ℕ)). x.now) (bytes_eq k.now) keys) ∙ ap (list_any (bytes_eq k.now)) same ∙ any_map (λ (v : WordText). v.text) (bytes_eq k.now) (distinct ws) ∙ ap (λ t. is_among (distinct ws) t) name

    by : (a b : Bool) → a ≡ b → map (λ (x : Bor (List ℕ)). x.now) (if a then keys else keys ++ k ∷ []) ≡ texts (if b then distinct ws else distinct ws ++ w ∷ [])
    by true true e = same
    by true false e = cc
    by false true e = cc
    by false false e = map-append (λ (x : Bor (List ℕ)). x.now) keys (k ∷ []) ∙ ap (λ l. l ++ k.now ∷ []) same ∙ ap (λ t. texts (distinct ws) ++ t ∷ []) name ∙ sym (map-append (λ (v : WordText). v.text) (distinct ws) (w ∷ []))

-- what the set answers
pub has_all : (keys : List (Bor (List ℕ))) (ws : List WordText) → map (λ (x : Bor (List ℕ)). x.now) keys ≡ texts (distinct ws) → (q : List ℕ) → list_any (λ (k : Bor (List ℕ)). bytes_eq q k.now) keys ≡ is_among ws q
has_all keys ws same q =
    sym (any_map (λ (x : Bor (List ℕ)). x.now) (bytes_eq q) keys) ∙ ap (list_any (bytes_eq q)) same ∙ any_map (λ (v : WordText). v.text) (bytes_eq q) (distinct ws) ∙ among_distinct ws q
