-- The lexemes of a line are such as a run takes.
use Rattle.std.proofs.Common.{◌≡◌, ℕ, zero, suc, ◌≤◌, ◌<◌, ◌+◌, Option, Some, None, Result, Ok, eqb, option_map, List, [], ◌∷◌, length, map, slice_get, refl, sym, ap, ◌∙◌, ⊎_elim, subst, arith}
use Rattle.std.specs.List.{slice_split, AllByRecursion}
use Rattle.std.proofs.lemmas.Bool.{cases_lt}
use Rattle.cfg_theory.specs.Grammar.{Grammar, end_token}
use Rattle.cfg_numbered.specs.Value.{GrammarValue, IsGrammar, IsTokenNamed}
use Rattle.parse_trees.specs.Lexemes.{AreItems, Misfit, IsMisfit, AreLexemes}
use Rattle.parse_trees.specs.Lex.{Lex}
use Rattle.parse_trees.specs.Refusals.{HasMisfit}
use Rattle.word_lines.specs.Words.{Word, words, words_in, token_named}
use Rattle.word_lines.specs.Lexing.{IsInside, lex_of, lexeme_of, item_by, item_of, items_of}
use Rattle.word_lines.specs.declared.lexeme.WordLexeme.{WordLexeme}
use Rattle.word_lines.specs.declared.lexeme.WordLexError.{WordLexError}
use Rattle.word_lines.proofs.NamedTokens.{named_within, named_inside}

pub by_token : {S : Type 0} (of_number : ℕ → S) (w : Word) (x : WordLexeme S) (o : Option ℕ) → item_by of_number w o ≡ Ok x → (t : ℕ) × (o ≡ Some t) × (lexeme_of of_number w t ≡ x)
by_token of_number w x None h = cc
by_token of_number w x (Some t) h = let e : lexeme_of of_number w t ≡ x = cc in (t, refl, e)

-- words start at the place or later, and in their order
starts_from : (at : ℕ) (parts : List (List ℕ)) (k : ℕ) (w : Word) → slice_get (words_in at parts) k ≡ Some w → at ≤ w.start
starts_from at [] k w h = cc
starts_from at ([] ∷ parts) k w h = let r = starts_from (at + 0 + 1) parts k w h in omega (arith, r)
starts_from at ((b ∷ bs) ∷ parts) zero w h =
    let first_word : Word = record { start = at; text = b ∷ bs } in
    let same : first_word ≡ w = cc in
    let e : at ≡ w.start = ap (λ (v : Word). v.start) same in
    omega (arith, e)
starts_from at ((b ∷ bs) ∷ parts) (suc k) w h = let r = starts_from (at + length (b ∷ bs) + 1) parts k w h in omega (arith, r)

ascends : (at : ℕ) (parts : List (List ℕ)) (j k : ℕ) (v w : Word) → j ≤ k → slice_get (words_in at parts) j ≡ Some v → slice_get (words_in at parts) k ≡ Some w → v.start ≤ w.start
ascends at [] j k v w le f h = cc
ascends at ([] ∷ parts) j k v w le f h = ascends (at + 0 + 1) parts j k v w le f h
ascends at ((b ∷ bs) ∷ parts) zero zero v w le f h =
    let same : v ≡ w = cc in
    let e : v.start ≡ w.start = ap (λ (u : Word). u.start) same in
    omega (arith, e)
ascends at ((b ∷ bs) ∷ parts) zero (suc k) v w le f h =
    let first_word : Word = record { start = at; text = b ∷ bs } in
    let same : first_word ≡ v = cc in
    let e : at ≡ v.start = ap (λ (u : Word). u.start) same in
    let r = starts_from (at + length (b ∷ bs) + 1) parts k w h in
    omega (arith, e, r)
ascends at ((b ∷ bs) ∷ parts) (suc j) zero v w le f h = absurd (omega (arith, le))
ascends at ((b ∷ bs) ∷ parts) (suc j) (suc k) v w le f h = ascends (at + length (b ∷ bs) + 1) parts j k v w (omega (arith, le)) f h

-- where all lexemes are inside, each one is
pub inside_at : {S : Type 0} (number : S → ℕ) (G : Grammar) (items : List (Result (WordLexeme S) WordLexError)) (lexemes : List (WordLexeme S)) → AllByRecursion (IsInside number G) items → items ≡ map Ok lexemes →
    (k : ℕ) (x : WordLexeme S) → slice_get lexemes k ≡ Some x → number x.token < end_token G
inside_at number G items [] all e k x h = cc
inside_at number G [] (y ∷ ys) all e k x h = cc
inside_at number G (item ∷ items) (y ∷ ys) all e zero x h =
    let here : item ≡ Ok y = cc in
    let same : y ≡ x = cc in
    subst (IsInside number G) (here ∙ ap Ok same) all.0
inside_at number G (item ∷ items) (y ∷ ys) all e (suc k) x h =
    let more : items ≡ map Ok ys = cc in
    inside_at number G items ys all.1 more k x h

-- no run refuses such lexemes
pub never_misfit : {L : Type 0} (G : Grammar) (lex : L → Lex) (lexemes : List L) → AreLexemes G lex lexemes → (m : Misfit) → IsMisfit (end_token G) lex lexemes m → ⊥
never_misfit G lex lexemes a (Misfit.outside k) h =
    let o = h.1 in
    let lt = a.inside k o.lexeme o.at in
    let out = o.outside in
    absurd (omega (arith, lt, out))
never_misfit G lex lexemes a (Misfit.decreases k) h =
    let d = h.2 in
    let behind = d.behind in
    let le = a.ascend d.index k d.front d.lexeme (omega (arith, behind)) d.front_at d.at in
    let less = d.decreases in
    absurd (omega (arith, le, less))

module _ {S : Type 0} (number : S → ℕ) (of_number : ℕ → S) (g : GrammarValue) where
  at_word : (ws : List Word) (lexemes : List (WordLexeme S)) → map (item_of of_number g) ws ≡ map Ok lexemes → (k : ℕ) (x : WordLexeme S) → slice_get lexemes k ≡ Some x → (w : Word) × (slice_get ws k ≡ Some w) × (item_of of_number g w ≡ Ok x)
  at_word [] [] e k x h = cc
  at_word [] (y ∷ ys) e k x h = cc
  at_word (w ∷ ws) [] e k x h = cc
  at_word (w ∷ ws) (y ∷ ys) e zero x h =
      let here : item_of of_number g w ≡ Ok y = cc in
      let same : y ≡ x = cc in
      (w, refl, here ∙ ap Ok same)
  at_word (w ∷ ws) (y ∷ ys) e (suc k) x h =
      let more : map (item_of of_number g) ws ≡ map Ok ys = cc in
      at_word ws ys more k x h

  -- lexemes of a line that are inside are such as a run takes
  pub taken : (line : List ℕ) (lexemes : List (WordLexeme S)) → AreItems (items_of of_number g line) lexemes → ((k : ℕ) (x : WordLexeme S) → slice_get lexemes k ≡ Some x → number x.token < end_token g.grammar) → AreLexemes g.grammar (lex_of number) lexemes
  taken line lexemes items within = record {
    inside = within;
    ascend = λ j k x y le f h.
        let (v, at_v, item_v) = at_word (words line) lexemes items j x f in
        let (w, at_w, item_w) = at_word (words line) lexemes items k y h in
        let (t, named_v, e_v) = by_token of_number v x (token_named g v.text) item_v in
        let (u, named_w, e_w) = by_token of_number w y (token_named g w.text) item_w in
        let le_start = ascends 0 (slice_split (λ b. eqb b 32) line) j k v w le at_v at_w in
        let sv : v.start ≡ x.span.start = ap (λ (z : WordLexeme S). z.span.start) e_v in
        let sw : w.start ≡ y.span.start = ap (λ (z : WordLexeme S). z.span.start) e_w in
        omega (arith, le_start, sv, sw);
    ordered = λ k x h.
        let (w, at, item) = at_word (words line) lexemes items k x h in
        let (t, named, e) = by_token of_number w x (token_named g w.text) item in
        let s : w.start ≡ x.span.start = ap (λ (z : WordLexeme S). z.span.start) e in
        let f : w.start + length w.text ≡ x.span.end = ap (λ (z : WordLexeme S). z.span.end) e in
        omega (arith, s, f);
  }

  -- so are those of a line whose items are inside
  pub taken_inside : (line : List ℕ) (items : List (Result (WordLexeme S) WordLexError)) → items ≡ items_of of_number g line → AllByRecursion (IsInside number g.grammar) items → (lexemes : List (WordLexeme S)) → AreItems items lexemes → AreLexemes g.grammar (lex_of number) lexemes
  taken_inside line items is all lexemes e = taken line lexemes (sym is ∙ e) (inside_at number g.grammar items lexemes all e)

  pub inside_not_refused : (line : List ℕ) (items : List (Result (WordLexeme S) WordLexError)) → items ≡ items_of of_number g line → AllByRecursion (IsInside number g.grammar) items → (m : Misfit) → HasMisfit g.grammar (lex_of number) items m → ⊥
  inside_not_refused line items is all m h = never_misfit g.grammar (lex_of number) h.lexemes (taken_inside line items is all h.lexemes h.are_items) m h.misfit

module _ {S : Type 0} (number : S → ℕ) (of_number : ℕ → S) (top : ℕ) (of_is : (n : ℕ) → n ≤ top → number (of_number n) ≡ n) (g : GrammarValue) (is : IsGrammar top g) where
  below : (name : List ℕ) (t : ℕ) → IsTokenNamed g t name → t < end_token g.grammar
  below name t n =
      let inside : t < length g.tokens = named_inside g name t n in
      let count = is.tokens in
      ⊎_elim (λ h. h) (λ h. let e : t ≡ end_token g.grammar = omega (arith, inside, count, h) in absurd (never_end name (subst (λ k. IsTokenNamed g k name) e n))) (cases_lt t (end_token g.grammar))
    where
      never_end : (name : List ℕ) → IsTokenNamed g (end_token g.grammar) name → ⊥
      never_end name m = let e = ap (option_map (λ k. k.name)) (sym is.end_unnamed) ∙ m.at in cc

  pub are_lexemes : (line : List ℕ) (lexemes : List (WordLexeme S)) → AreItems (items_of of_number g line) lexemes → AreLexemes g.grammar (lex_of number) lexemes
  are_lexemes line lexemes items = taken number of_number g line lexemes items (λ k x h.
      let (w, at, item) = at_word number of_number g (words line) lexemes items k x h in
      let (t, named, e) = by_token of_number w x (token_named g w.text) item in
      let lt = below w.text t (named_within g w.text t named) in
      let same : t ≡ number x.token = sym (of_is t (let f = is.fits.tokens in omega (arith, lt, f))) ∙ ap (λ (y : WordLexeme S). number y.token) e in
      omega (arith, lt, same))

  pub not_refused : (line : List ℕ) (m : Misfit) → HasMisfit g.grammar (lex_of number) (items_of of_number g line) m → ⊥
  not_refused line m h = never_misfit g.grammar (lex_of number) h.lexemes (are_lexemes line h.lexemes h.are_items) m h.misfit
