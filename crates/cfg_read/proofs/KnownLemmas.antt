-- What is known of names, collected one after another.
use Rattle.std.proofs.Common.{◌≡◌, ℕ, ◌+◌, ◌<◌, Bool, ◌||◌, List, [], ◌∷◌, ◌++◌, map, fold, take, length, get_or, refl, sym, ap, ◌∙◌}
use Rattle.std.proofs.lemmas.List.{take_more, map-append}
use Rattle.std.proofs.lemmas.List.Sums.{fold_push}
use Rattle.std.proofs.lemmas.Grind.{flat_map-append}
use Rattle.std.specs.List.{flat_map}
use Rattle.cfg_read.specs.SyntaxTexts.{WordText, SymbolText}
use Rattle.cfg_read.specs.Names.{is_named, is_among, with_distinct, words_in}
use Rattle.cfg_read.specs.NameTables.{KnownNames, with_declared, with_rule_name, with_token}
use Rattle.cfg_read.proofs.NameLemmas.{or_false, or_assoc}

-- one more turn of a loop that puts in what two maps make of each item
pub fold_turn : {K A B C : Type 0} (f : K → C → K) (g : A → B) (h : B → C) (k old new : K) (xs : List A) (i : ℕ) (x : A) → i < length xs → x ≡ get_or xs i x
    → old ≡ fold f k (map h (map g (take i xs))) → new ≡ f old (h (g x)) → new ≡ fold f k (map h (map g (take (i + 1) xs)))
fold_turn f g h k old new xs i x within is before turn =
    let more : take (i + 1) xs ≡ take i xs ++ x ∷ [] = take_more xs i x within ∙ ap (λ y. take i xs ++ y ∷ []) (sym is) in
    turn
    ∙ ap (λ o. f o (h (g x))) before
    ∙ sym (fold_push f k (map h (map g (take i xs))) (h (g x)))
    ∙ ap (fold f k) (sym (ap (λ l. map h (map g l)) more ∙ ap (map h) (map-append g (take i xs) (x ∷ [])) ∙ map-append h (map g (take i xs)) (g x ∷ [])))

-- one more turn of a loop that collects lists
pub flat_turn : {A B C : Type 0} (h : B → List C) (g : A → B) (old new : List C) (xs : List A) (i : ℕ) (x : A) → i < length xs → x ≡ get_or xs i x
    → old ≡ flat_map h (map g (take i xs)) → new ≡ old ++ h (g x) → new ≡ flat_map h (map g (take (i + 1) xs))
flat_turn h g old new xs i x within is before turn =
    let more : take (i + 1) xs ≡ take i xs ++ x ∷ [] = take_more xs i x within ∙ ap (λ y. take i xs ++ y ∷ []) (sym is) in
    turn
    ∙ ap (λ o. o ++ h (g x)) before
    ∙ ap (λ l. flat_map h (map g (take i xs)) ++ l) (sym (one h (g x)))
    ∙ sym (ap (λ l. flat_map h (map g l)) more ∙ ap (flat_map h) (map-append g (take i xs) (x ∷ [])) ∙ flat_map-append h (map g (take i xs)) (g x ∷ []))
  where
    nil : {C : Type 0} (cs : List C) → cs ++ [] ≡ cs
    nil [] = refl
    nil (c ∷ cs) = ap (λ l. c ∷ l) (nil cs)

    one : {B C : Type 0} (h : B → List C) (b : B) → flat_map h (b ∷ []) ≡ h b
    one h b = nil (h b)

-- the words of lines
pub words_of_lines : (ls : List (List SymbolText)) → words_in (flat_map (λ (l : List SymbolText). l) ls) ≡ flat_map words_in ls
words_of_lines [] = refl
words_of_lines (l ∷ ls) = map-append (λ (s : SymbolText). s.word) l (flat_map (λ (l : List SymbolText). l) ls) ∙ ap (λ t. words_in l ++ t) (words_of_lines ls)

abbrev pub known : (List ℕ → Bool) → (List ℕ → Bool) → List WordText → KnownNames
known d r ts = record { declared = d; rules = r; tokens = ts }

pub all_declared : (d r : List ℕ → Bool) (ts ws : List WordText) → fold with_declared (known d r ts) ws ≡ known (λ q. d q || is_among ws q) r ts
all_declared d r ts [] = ap (λ e. known e r ts) (λ j q. sym (or_false (d q)) j)
all_declared d r ts (w ∷ ws) =
    all_declared (λ q. d q || is_named q w) r ts ws
    ∙ ap (λ e. known e r ts) (λ j q. or_assoc (d q) (is_named q w) (is_among ws q) j)

pub all_rules : (d r : List ℕ → Bool) (ts ws : List WordText) → fold with_rule_name (known d r ts) ws ≡ known d (λ q. r q || is_among ws q) ts
all_rules d r ts [] = ap (λ e. known d e ts) (λ j q. sym (or_false (r q)) j)
all_rules d r ts (w ∷ ws) =
    all_rules d (λ q. r q || is_named q w) ts ws
    ∙ ap (λ e. known d e ts) (λ j q. or_assoc (r q) (is_named q w) (is_among ws q) j)

pub all_tokens : (d r : List ℕ → Bool) (ts ws : List WordText) → fold with_token (known d r ts) ws ≡ known d r (fold with_distinct ts ws)
all_tokens d r ts [] = refl
all_tokens d r ts (w ∷ ws) = all_tokens d r (with_distinct ts w) ws
