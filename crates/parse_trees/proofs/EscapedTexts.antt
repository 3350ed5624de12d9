-- Texts whose LFs are shown.
use Rattle.std.proofs.Common.{◌≡◌, ℕ, suc, ◌<◌, true, false, List, [], ◌∷◌, ◌++◌, length, take, get_or, if◌then◌else◌, refl, sym, ap, ◌∙◌, arith}
use Rattle.std.proofs.lemmas.List.{length-take}
use Rattle.std.proofs.Common.{get_or-take}
use Rattle.std.proofs.lemmas.List.Sums.{split_at_first, passes_at_first, fails_before_first}
use Rattle.std.specs.List.{position_or_len, before_first, after_first}
use Rattle.cfg_base.specs.Text.{is_line_feed}
use Rattle.parse_trees.specs.ErrorTexts.{escaped}

-- a text without LFs is shown as it is
pub escaped_plain : (xs : List ℕ) → ((k : ℕ) (d : ℕ) → k < length xs → is_line_feed (get_or xs k d) ≡ false) → escaped xs ≡ xs
escaped_plain [] h = refl
escaped_plain (x ∷ xs) h =
    ap (λ t. (if t then 92 ∷ 110 ∷ [] else x ∷ []) ++ escaped xs) (h 0 0 (omega arith)) ∙ ap (λ l. x ∷ l) (escaped_plain xs (λ k d lt. h (suc k) d (omega (arith, lt))))

escaped_feed : (x : ℕ) (xs : List ℕ) → is_line_feed x ≡ true → escaped (x ∷ xs) ≡ 92 ∷ 110 ∷ escaped xs
escaped_feed x xs e = ap (λ t. (if t then 92 ∷ 110 ∷ [] else x ∷ []) ++ escaped xs) e

assoc : (xs ys zs : List ℕ) → (xs ++ ys) ++ zs ≡ xs ++ (ys ++ zs)
assoc [] ys zs = refl
assoc (x ∷ xs) ys zs = ap (λ l. x ∷ l) (assoc xs ys zs)

escaped_append : (xs ys : List ℕ) → escaped (xs ++ ys) ≡ escaped xs ++ escaped ys
escaped_append [] ys = refl
escaped_append (x ∷ xs) ys = ap (λ l. (if is_line_feed x then 92 ∷ 110 ∷ [] else x ∷ []) ++ l) (escaped_append xs ys) ∙ sym (assoc (if is_line_feed x then 92 ∷ 110 ∷ [] else x ∷ []) (escaped xs) (escaped ys))

before_plain : (xs : List ℕ) → escaped (before_first is_line_feed xs) ≡ before_first is_line_feed xs
before_plain xs =
    let p = position_or_len is_line_feed xs in
    escaped_plain (take p xs) (λ k d lt. ap is_line_feed (get_or-take p xs k d (omega (arith, lt, length-take p xs))) ∙ fails_before_first is_line_feed xs k d (omega (arith, lt, length-take p xs)))

-- a text up to its first LF, and behind it
pub escaped_first : (xs : List ℕ) → position_or_len is_line_feed xs < length xs → escaped xs ≡ before_first is_line_feed xs ++ 92 ∷ 110 ∷ escaped (after_first is_line_feed xs)
escaped_first xs lt =
    let p = position_or_len is_line_feed xs in
    let before = before_first is_line_feed xs in
    let after = after_first is_line_feed xs in
    ap escaped (split_at_first is_line_feed xs 0 lt)
    ∙ escaped_append before (get_or xs p 0 ∷ after)
    ∙ ap (λ l. l ++ escaped (get_or xs p 0 ∷ after)) (before_plain xs)
    ∙ ap (λ l. before ++ l) (escaped_feed (get_or xs p 0) after (passes_at_first is_line_feed xs 0 lt))

pub escaped_none : (xs : List ℕ) → position_or_len is_line_feed xs ≡ length xs → escaped xs ≡ xs
escaped_none xs e = escaped_plain xs (λ k d lt. fails_before_first is_line_feed xs k d (omega (arith, lt, e)))

-- a line is put, with what is shown of its LF
pub line_put : (text text' text'' whole rest line after : List ℕ) → text ++ escaped rest ≡ whole → position_or_len is_line_feed rest < length rest → line ≡ before_first is_line_feed rest → after ≡ after_first is_line_feed rest →
    text' ≡ text ++ line → text'' ≡ text' ++ 92 ∷ 110 ∷ [] → text'' ++ escaped after ≡ whole
line_put text text' text'' whole rest line after so lt is_line is_after e f =
    ap (λ l. l ++ escaped after) (f ∙ ap (λ l. l ++ 92 ∷ 110 ∷ []) (e ∙ ap (λ l. text ++ l) is_line))
    ∙ assoc (text ++ before_first is_line_feed rest) (92 ∷ 110 ∷ []) (escaped after)
    ∙ assoc text (before_first is_line_feed rest) (92 ∷ 110 ∷ escaped after)
    ∙ ap (λ a. text ++ (before_first is_line_feed rest ++ 92 ∷ 110 ∷ escaped a)) is_after
    ∙ ap (λ l. text ++ l) (sym (escaped_first rest lt))
    ∙ so

pub last_put : (text text' whole rest : List ℕ) → text ++ escaped rest ≡ whole → position_or_len is_line_feed rest ≡ length rest → text' ≡ text ++ rest → text' ≡ whole
last_put text text' whole rest so e is = is ∙ ap (λ l. text ++ l) (sym (escaped_none rest e)) ∙ so
