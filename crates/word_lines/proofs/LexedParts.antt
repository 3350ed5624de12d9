-- What is lexed after each part of a line.
use Rattle.std.proofs.Common.{◌≡◌, ℕ, ◌≤◌, ◌<◌, ◌+◌, ◌-◌, true, eqb, Result, List, [], ◌∷◌, ◌++◌, length, take, drop, get_or, IsUtf8, IsCharBoundary, sym, ap, ◌∙◌, append_assoc, arith, subst, refl}
use Rattle.std.proofs.lemmas.Bool.Decides.{nat_tests}
use Rattle.std.proofs.lemmas.List.{length-drop, length-take-le, take_all}
use Rattle.std.proofs.lemmas.List.Splits.{slice_split_first, slice_split_none}
use Rattle.std.proofs.lemmas.List.Sums.{fails_before_first, passes_at_first}
use Rattle.std.proofs.lemmas.Str.{IsCharBoundary-before_ascii, IsCharBoundary-after_ascii}
use Rattle.std.specs.List.{slice_split, position_or_len, AllByRecursion}
use Rattle.cfg_numbered.specs.Value.{GrammarValue}
use Rattle.word_lines.specs.Lexing.{items_in, items_of}
use Rattle.word_lines.specs.declared.lexeme.WordLexeme.{WordLexeme}
use Rattle.word_lines.specs.declared.lexeme.WordLexError.{WordLexError}

pub all_more : {X : Type 0} (P : X → Type 0) (old more new : List X) → new ≡ old ++ more → AllByRecursion P old → AllByRecursion P more → AllByRecursion P new
all_more P old more new e h k = subst (AllByRecursion P) (sym e) (append old h)
  where
    append : (xs : List _) → AllByRecursion P xs → AllByRecursion P (xs ++ more)
    append [] h = k
    append (x ∷ xs) h = (h.0, append xs h.1)

-- the parts of a text
abbrev pub parts_of : List ℕ → List (List ℕ)
parts_of text = slice_split (λ b. eqb b 32) text

-- how long the first part is
abbrev pub first_len : List ℕ → ℕ
first_len text = position_or_len (λ b. eqb b 32) text

module _ (text : List ℕ) where
  is_space : first_len text < length text → get_or text (first_len text) 0 < 128
  is_space lt =
      let e : eqb (get_or text (first_len text) 0) 32 ≡ true = passes_at_first (λ b. eqb b 32) text 0 lt in
      grind (arith, nat_tests)

  -- the first part may be cut off
  pub part_cut : (len : ℕ) → len ≡ first_len text → len ≤ length text → IsCharBoundary text len
  part_cut len is le = (
    le,
    λ lt.
        let less : first_len text < length text = omega (arith, is, lt) in
        (subst (IsCharBoundary text) (sym is) (IsCharBoundary-before_ascii text (first_len text) less (is_space less))).1 lt,
  )

  -- and so may the space behind it
  pub space_cut : IsUtf8 text → (len : ℕ) → len ≡ first_len text → len < length text → IsCharBoundary text (len + 1)
  space_cut utf8 len is lt =
      let less : first_len text < length text = omega (arith, is, lt) in
      subst (λ n. IsCharBoundary text (n + 1)) (sym is) (IsCharBoundary-after_ascii text (first_len text) utf8 less (is_space less))

  -- a text is its first part, a space and the other parts
  first_part : first_len text < length text → parts_of text ≡ take (first_len text) text ∷ parts_of (drop (first_len text + 1) text)
  first_part lt = slice_split_first (λ b. eqb b 32) text 0 lt

  -- or one part
  one_part : first_len text ≡ length text → parts_of text ≡ take (first_len text) text ∷ []
  one_part e =
      slice_split_none (λ b. eqb b 32) text (λ k d lt. fails_before_first (λ b. eqb b 32) text k d (omega (arith, e, lt))) ∙ ap (λ l. l ∷ []) (sym (take_all (first_len text) text (omega (arith, e))))

module _ {S : Type 0} (of_number : ℕ → S) (g : GrammarValue) (line : List ℕ) where
  one_more : (at : ℕ) (part : List ℕ) (parts : List (List ℕ)) → items_in of_number g at (part ∷ parts) ≡ items_in of_number g at (part ∷ []) ++ items_in of_number g (at + length part + 1) parts
  one_more at [] parts = refl
  one_more at (b ∷ bs) parts = refl

  -- the parts before the rest of the line are lexed
  pub record LexedTo (rest : List ℕ) (items : List (Result (WordLexeme S) WordLexError)) : Type 0 where
    pub fits : length rest ≤ length line
    pub so_far : items_of of_number g line ≡ items ++ items_in of_number g (length line - length rest) (parts_of rest)

  pub LexedTo-start : LexedTo line []
  LexedTo-start = let at : 0 ≡ length line - length line = omega arith in record { fits = omega arith; so_far = ap (λ k. items_in of_number g k (parts_of line)) at }

  module _ (rest : List ℕ) (len : ℕ) (is : len ≡ first_len rest) (old new : List (Result (WordLexeme S) WordLexError)) (s : LexedTo rest old) (e : new ≡ old ++ items_in of_number g (length line - length rest) (take len rest ∷ [])) where
    pub LexedTo-more : len < length rest → LexedTo (drop (len + 1) rest) new
    LexedTo-more lt =
        let at = length line - length rest in
        let part = take len rest in
        let left = drop (len + 1) rest in
        let fits = s.fits in
        let long : length part ≡ len = length-take-le len rest (omega (arith, lt)) in
        let less : length left ≡ length rest - (len + 1) = length-drop (len + 1) rest in
        let next : at + length part + 1 ≡ length line - length left = omega (arith, fits, long, less, lt) in
        let more = items_in of_number g (length line - length left) (parts_of left) in
        let parts : parts_of rest ≡ part ∷ parts_of left = first_part rest (omega (arith, is, lt)) ∙ ap (λ k. take k rest ∷ parts_of (drop (k + 1) rest)) (sym is) in
        record {
          fits = omega (arith, fits, less);
          so_far = s.so_far ∙ ap (λ ps. old ++ items_in of_number g at ps) parts ∙ ap (λ l. old ++ l) (one_more at part (parts_of left)) ∙ ap (λ k. old ++ (items_in of_number g at (part ∷ []) ++ items_in of_number g k (parts_of left))) next ∙ sym (append_assoc old (items_in of_number g at (part ∷ [])) more) ∙ ap (λ l. l ++ more) (sym e);
        }

    pub LexedTo-end : len ≡ length rest → new ≡ items_of of_number g line
    LexedTo-end all =
        let parts : parts_of rest ≡ take len rest ∷ [] = one_part rest (sym is ∙ all) ∙ ap (λ k. take k rest ∷ []) (sym is) in
        e ∙ ap (λ ps. old ++ items_in of_number g (length line - length rest) ps) (sym parts) ∙ sym s.so_far
