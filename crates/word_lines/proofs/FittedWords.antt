-- The items of a line are parts of it, from the start of a character to that of another.
use Rattle.std.proofs.Common.{◌≡◌, ℕ, suc, ◌<◌, ◌+◌, Bool, true, false, cond, eqb, Result, Ok, Err, Option, Some, None, List, [], ◌∷◌, ◌++◌, length, map, get_or, IsUtf8, IsCharBoundary, refl, sym, ap, ◌∙◌, subst, arith}
use Rattle.std.specs.List.{slice_split, onto_first, AllByRecursion}
use Rattle.std.proofs.lemmas.Bool.Decides.{nat_tests}
use Rattle.std.proofs.lemmas.Str.{IsCharBoundary-start, IsCharBoundary-end, IsCharBoundary-before_ascii, IsCharBoundary-after_ascii}
use Rattle.cfg_numbered.specs.Value.{GrammarValue}
use Rattle.parse_trees.specs.ErrorTexts.{FitsInput}
use Rattle.parse_trees.specs.Lexemes.{AreItems, IsFirstLexError}
use Rattle.word_lines.specs.Words.{Word, words, words_in, token_named}
use Rattle.word_lines.specs.Lexing.{span_of, item_by, item_of, items_of}
use Rattle.word_lines.specs.declared.lexeme.WordLexeme.{WordLexeme}
use Rattle.word_lines.specs.declared.lexeme.WordLexError.{WordLexError}
use Rattle.word_lines.proofs.TakenLexemes.{by_token}

is_space : (c : ℕ) → eqb c 32 ≡ true → c ≡ 32
is_space c h = grind (arith, nat_tests)

module _ (line : List ℕ) where
  -- parts that stand from the place on begin and end at characters' starts
  abbrev AreCut : ℕ → List (List ℕ) → Type 0
  AreCut at [] = Unit {0}
  AreCut at (q ∷ qs) = IsCharBoundary line at × IsCharBoundary line (at + length q) × AreCut (at + length q + 1) qs

  -- there is one, and so they do but for where the first begins
  abbrev GoOn : ℕ → List (List ℕ) → Type 0
  GoOn at [] = ⊥
  GoOn at (q ∷ qs) = IsCharBoundary line (at + length q) × AreCut (at + length q + 1) qs

  begun : (at : ℕ) (parts : List (List ℕ)) → IsCharBoundary line at → GoOn at parts → AreCut at parts
  begun at [] b h = absurd h
  begun at (q ∷ qs) b h = (b, h.0, h.1)

  longer : (at x : ℕ) (parts : List (List ℕ)) → GoOn (at + 1) parts → GoOn at (onto_first x parts)
  longer at x [] h = absurd h
  longer at x (q ∷ qs) h =
      let e : at + 1 + length q ≡ at + length (x ∷ q) = omega arith in
      (subst (IsCharBoundary line) e h.0, subst (λ k. AreCut (k + 1) qs) e h.1)

  module _ (utf8 : IsUtf8 line) where
    next : (at x : ℕ) (parts : List (List ℕ)) (space : Bool) → eqb x 32 ≡ space → at < length line → get_or line at 0 ≡ x → GoOn (at + 1) parts → GoOn at (cond space ([] ∷ parts) (onto_first x parts))
    next at x parts true e lt same h =
        let ascii : get_or line at 0 < 128 = let s = is_space x e in omega (arith, s, same) in
        let here : at ≡ at + 0 = omega arith in
        (subst (IsCharBoundary line) here (IsCharBoundary-before_ascii line at lt ascii), subst (λ k. AreCut (k + 1) parts) here (begun (at + 1) parts (IsCharBoundary-after_ascii line at utf8 lt ascii) h))
    next at x parts false e lt same h = longer at x parts h

    split_goes_on : (at : ℕ) (xs : List ℕ) → at + length xs ≡ length line → ((k : ℕ) → k < length xs → get_or line (at + k) 0 ≡ get_or xs k 0) → GoOn at (slice_split (λ b. eqb b 32) xs)
    split_goes_on at [] long same = let e : length line ≡ at + 0 = omega (arith, long) in (subst (IsCharBoundary line) e (IsCharBoundary-end line), tt)
    split_goes_on at (x ∷ xs) long same =
        let here : at + 0 ≡ at = omega arith in
        let is : get_or line at 0 ≡ x = ap (λ k. get_or line k 0) (sym here) ∙ same 0 (omega arith) in
        let after : at + 1 + length xs ≡ length line = omega (arith, long) in
        next at x (slice_split (λ b. eqb b 32) xs) (eqb x 32) refl (omega (arith, long)) is
        (split_goes_on (at + 1) xs after (λ k lt. let e : at + 1 + k ≡ at + suc k = omega arith in ap (λ j. get_or line j 0) e ∙ same (suc k) (omega (arith, lt))))

    parts_are_cut : AreCut 0 (slice_split (λ b. eqb b 32) line)
    parts_are_cut = begun 0 (slice_split (λ b. eqb b 32) line) (IsCharBoundary-start line utf8) (split_goes_on 0 line (omega arith) (λ k lt. let e : 0 + k ≡ k = omega arith in ap (λ j. get_or line j 0) e))

  abbrev WordFits : Word → Type 0
  WordFits w = FitsInput line w.start (w.start + length w.text)

  words_fit : (at : ℕ) (parts : List (List ℕ)) → AreCut at parts → AllByRecursion WordFits (words_in at parts)
  words_fit at [] h = tt
  words_fit at ([] ∷ parts) h = words_fit (at + 0 + 1) parts h.2
  words_fit at ((b ∷ bs) ∷ parts) h = (record { ordered = omega arith; starts = h.0; ends = h.1 }, words_fit (at + length (b ∷ bs) + 1) parts h.2)

  module _ {S : Type 0} (of_number : ℕ → S) (g : GrammarValue) where
    by_fault : (w : Word) (e : WordLexError) (o : Option ℕ) → item_by of_number w o ≡ Err e → record { span = span_of w } ≡ e
    by_fault w e None h = cc
    by_fault w e (Some t) h = cc

    lexeme_fits : (w : Word) (x : WordLexeme S) → WordFits w → item_of of_number g w ≡ Ok x → FitsInput line x.span.start x.span.end
    lexeme_fits w x fits h =
        let (t, named, e) = by_token of_number w x (token_named g w.text) h in
        subst (λ (y : WordLexeme S). FitsInput line y.span.start y.span.end) e fits

    fault_fits : (w : Word) (e : WordLexError) → WordFits w → item_of of_number g w ≡ Err e → FitsInput line e.span.start e.span.end
    fault_fits w e fits h = subst (λ (y : WordLexError). FitsInput line y.span.start y.span.end) (by_fault w e (token_named g w.text) h) fits

    all_fit : (ws : List Word) (xs : List (WordLexeme S)) → AllByRecursion WordFits ws → map (item_of of_number g) ws ≡ map Ok xs → AllByRecursion (λ x. FitsInput line x.span.start x.span.end) xs
    all_fit [] [] fits e = tt
    all_fit [] (x ∷ xs) fits e = cc
    all_fit (w ∷ ws) [] fits e = cc
    all_fit (w ∷ ws) (x ∷ xs) fits e =
        let here : item_of of_number g w ≡ Ok x = cc in
        let more : map (item_of of_number g) ws ≡ map Ok xs = cc in
        (lexeme_fits w x fits.0 here, all_fit ws xs fits.1 more)

    first_fits : (ws : List Word) (e : WordLexError) (before : List (WordLexeme S)) (after : List (Result (WordLexeme S) WordLexError)) → AllByRecursion WordFits ws → map (item_of of_number g) ws ≡ map Ok before ++ Err e ∷ after → FitsInput line e.span.start e.span.end
    first_fits [] e [] after fits h = cc
    first_fits [] e (x ∷ before) after fits h = cc
    first_fits (w ∷ ws) e [] after fits h =
        let here : item_of of_number g w ≡ Err e = cc in
        fault_fits w e fits.0 here
    first_fits (w ∷ ws) e (x ∷ before) after fits h =
        let more : map (item_of of_number g) ws ≡ map Ok before ++ Err e ∷ after = cc in
        first_fits ws e before after fits.1 more

pub lexemes_fit : {S : Type 0} (of_number : ℕ → S) (g : GrammarValue) (line : List ℕ) (lexemes : List (WordLexeme S)) → IsUtf8 line → AreItems (items_of of_number g line) lexemes → AllByRecursion (λ x. FitsInput line x.span.start x.span.end) lexemes
lexemes_fit of_number g line lexemes utf8 h = all_fit line of_number g (words line) lexemes (words_fit line 0 (slice_split (λ b. eqb b 32) line) (parts_are_cut line utf8)) h

pub error_fits : {S : Type 0} (of_number : ℕ → S) (g : GrammarValue) (line : List ℕ) (e : WordLexError) → IsUtf8 line → IsFirstLexError (items_of of_number g line) e → FitsInput line e.span.start e.span.end
error_fits of_number g line e utf8 h = first_fits line of_number g (words line) e h.before h.after (words_fit line 0 (slice_split (λ b. eqb b 32) line) (parts_are_cut line utf8)) h.is
