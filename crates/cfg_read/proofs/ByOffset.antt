-- Two lists of symbols joined by their offsets, one symbol after another.
use Rattle.std.proofs.Common.{◌≡◌, ℕ, ◌+◌, ◌<◌, ◌≤◌, Bool, true, false, List, [], ◌∷◌, ◌++◌, drop, length, map, get_or, nat_lt, if◌then◌else◌, sym, ap, ◌∙◌, arith}
use Rattle.std.proofs.lemmas.Bool.Decides.{nat_tests}
use Rattle.std.proofs.lemmas.List.{map-append, append_assoc, drop-map, drop_more}
use Rattle.cfg_read.specs.SyntaxTexts.{WordText, SymbolText}
use Rattle.cfg_read.specs.Names.{words_in, put_by_offset, by_offset}

lt_true : (a b : ℕ) → a < b → nat_lt a b ≡ true
lt_true a b h = grind (arith, nat_tests)

lt_false : (a b : ℕ) → b ≤ a → nat_lt a b ≡ false
lt_false a b h = grind (arith, nat_tests)

-- the words of what these symbols say
abbrev pub seen : {A : Type 0} → (A → SymbolText) → List A → List WordText
seen g xs = words_in (map g xs)

pub push_seen : {A : Type 0} (g : A → SymbolText) (xs : List A) (x : A) → seen g (xs ++ x ∷ []) ≡ seen g xs ++ (g x).word ∷ []
push_seen g xs x = ap words_in (map-append g xs (x ∷ [])) ∙ map-append (λ (s : SymbolText). s.word) (map g xs) (g x ∷ [])

pub drop_seen : {A : Type 0} (g : A → SymbolText) (i : ℕ) (xs : List A) → drop i (seen g xs) ≡ seen g (drop i xs)
drop_seen g i xs = drop-map (λ (s : SymbolText). s.word) i (map g xs) ∙ ap words_in (drop-map g i xs)

pub drop_at : {A : Type 0} (g : A → SymbolText) (xs : List A) (i : ℕ) (x : A) → i < length xs → x ≡ get_or xs i x → drop i (seen g xs) ≡ (g x).word ∷ drop (i + 1) (seen g xs)
drop_at g xs i x within is =
    drop_seen g i xs
    ∙ ap (seen g) (drop_more xs i x within)
    ∙ ap (λ y. (g y).word ∷ seen g (drop (i + 1) xs)) (sym is)
    ∙ ap (λ l. (g x).word ∷ l) (sym (drop_seen g (i + 1) xs))

-- behind one more that stands before
pub put_step : {A : Type 0} (g : A → SymbolText) (found new xs : List A) (i : ℕ) (x : A) (v : WordText) (rest : List WordText → List WordText) → i < length xs → x ≡ get_or xs i x → new ≡ found ++ x ∷ [] → (g x).word.span.start < v.span.start
    → seen g new ++ put_by_offset v rest (drop (i + 1) (seen g xs)) ≡ seen g found ++ put_by_offset v rest (drop i (seen g xs))
put_step g found new xs i x v rest within is push before =
    ap (λ l. seen g l ++ put_by_offset v rest (drop (i + 1) (seen g xs))) push
    ∙ ap (λ l. l ++ put_by_offset v rest (drop (i + 1) (seen g xs))) (push_seen g found x)
    ∙ append_assoc (seen g found) ((g x).word ∷ []) (put_by_offset v rest (drop (i + 1) (seen g xs)))
    ∙ ap (λ (b : Bool). seen g found ++ (if b then (g x).word ∷ put_by_offset v rest (drop (i + 1) (seen g xs)) else v ∷ rest ((g x).word ∷ drop (i + 1) (seen g xs)))) (sym (lt_true (g x).word.span.start v.span.start before))
    ∙ ap (λ l. seen g found ++ put_by_offset v rest l) (sym (drop_at g xs i x within is))

-- at one that doesn't
pub put_stop : {A : Type 0} (g : A → SymbolText) (xs : List A) (i : ℕ) (x : A) (v : WordText) (rest : List WordText → List WordText) → i < length xs → x ≡ get_or xs i x → v.span.start ≤ (g x).word.span.start
    → v ∷ rest (drop i (seen g xs)) ≡ put_by_offset v rest (drop i (seen g xs))
put_stop g xs i x v rest within is behind =
    ap (λ l. v ∷ rest l) (drop_at g xs i x within is)
    ∙ ap (λ (b : Bool). if b then (g x).word ∷ put_by_offset v rest (drop (i + 1) (seen g xs)) else v ∷ rest ((g x).word ∷ drop (i + 1) (seen g xs))) (sym (lt_false (g x).word.span.start v.span.start behind))
    ∙ ap (λ l. put_by_offset v rest l) (sym (drop_at g xs i x within is))

-- one of the first list
pub place_turn : {A B : Type 0} (g : A → SymbolText) (h : B → SymbolText) (found before new : List A) (xs : List B) (ys : List A) (i next later : ℕ) (x : B) (y : A) (all : List WordText) → (g y).word ≡ (h x).word → i < length xs → x ≡ get_or xs i x → new ≡ before ++ y ∷ []
    → seen g before ++ (h x).word ∷ by_offset (drop (i + 1) (seen h xs)) (drop later (seen g ys)) ≡ seen g found ++ put_by_offset (h x).word (by_offset (drop (i + 1) (seen h xs))) (drop next (seen g ys))
    → seen g found ++ by_offset (drop i (seen h xs)) (drop next (seen g ys)) ≡ all
    → seen g new ++ by_offset (drop (i + 1) (seen h xs)) (drop later (seen g ys)) ≡ all
place_turn g h found before new xs ys i next later x y all same_word within is push turn same =
    ap (λ l. seen g l ++ by_offset (drop (i + 1) (seen h xs)) (drop later (seen g ys))) push
    ∙ ap (λ l. l ++ by_offset (drop (i + 1) (seen h xs)) (drop later (seen g ys))) (push_seen g before y)
    ∙ append_assoc (seen g before) ((g y).word ∷ []) (by_offset (drop (i + 1) (seen h xs)) (drop later (seen g ys)))
    ∙ ap (λ w. seen g before ++ w ∷ by_offset (drop (i + 1) (seen h xs)) (drop later (seen g ys))) same_word
    ∙ turn
    ∙ ap (λ l. seen g found ++ by_offset l (drop next (seen g ys))) (sym (drop_at h xs i x within is))
    ∙ same
