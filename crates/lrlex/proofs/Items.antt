-- The meanings so far, the numbers so far, the items so far.
use Rattle.std.proofs.Common.{◌≡◌, ℕ, ◌+◌, ◌<◌, Bool, false, cond, List, [], ◌∷◌, ◌++◌, map, length, take, get_or, Option, Result, Ok, sym, ap, ap₂, ◌∙◌, subst, append_assoc, add-one}
use Rattle.std.proofs.lemmas.List.{take_more, map-append}
use Rattle.cfg_base.specs.SpanModel.{SpanModel}
use Rattle.cfg_base.specs.declared.symbol.TIdx.{TIdx}
use Rattle.cfg_numbered.specs.Value.{GrammarValue}
use Rattle.maximal_munch.specs.declared.munching.Part.{Part}
use Rattle.lrlex.specs.Lexing.{Means, AreMeanings, numbers_below, put_part}
use Rattle.lrlex.specs.declared.bound.Meaning.{Meaning}
use Rattle.lrlex.specs.declared.bound.Meaning.TheVariants.{Token}
use Rattle.lrpar.specs.declared.default_lexeme.DefaultLexeme.{DefaultLexeme}
use Rattle.lrlex.specs.declared.lex_error.LRLexError.{LRLexError}

module _ {S : Type 0} (number : S → ℕ) (g : GrammarValue) where
  one_more : (ns : List (Option (List ℕ))) (ms : List (Meaning S)) (n : Option (List ℕ)) (m : Meaning S) → AreMeanings number g ns ms → Means number g n m → AreMeanings number g (ns ++ n ∷ []) (ms ++ m ∷ [])
  one_more [] [] n m a h = (h, tt)
  one_more [] (y ∷ ms) n m a h = absurd a
  one_more (x ∷ ns) [] n m a h = absurd a
  one_more (x ∷ ns) (y ∷ ms) n m a h = (a.0, one_more ns ms n m a.1 h)

  -- one more name with its meaning
  pub more_meanings : {N : Type 0} (f : N → Option (List ℕ)) (names : List N) (i : ℕ) (x : N) → i < length names → x ≡ get_or names i x → (ms ms' : List (Meaning S)) (m : Meaning S) →
      AreMeanings number g (map f (take i names)) ms → Means number g (f x) m → ms' ≡ ms ++ m ∷ [] → AreMeanings number g (map f (take (i + 1) names)) ms'
  more_meanings f names i x lt read ms ms' m a h e =
      let step : map f (take (i + 1) names) ≡ map f (take i names) ++ f x ∷ [] =
      ap (map f) (take_more names i x lt) ∙ map-append f (take i names) (get_or names i x ∷ []) ∙ ap (λ y. map f (take i names) ++ f y ∷ []) (sym read) in
      subst (AreMeanings number g (map f (take (i + 1) names))) (sym e)
      (subst (λ ns. AreMeanings number g ns (ms ++ m ∷ [])) (sym step) (one_more (map f (take i names)) ms (f x) m a h))

-- one more number, which passes or doesn't
pub next_number : (p : ℕ → Bool) (n : ℕ) (xs ys : List ℕ) (b : Bool) → xs ≡ numbers_below p n → b ≡ p n → ys ≡ xs ++ cond b (n ∷ []) [] → ys ≡ numbers_below p (n + 1)
next_number p n xs ys b so is e = rw add-one (e ∙ ap (λ l. l ++ cond b (n ∷ []) []) so ∙ ap (λ c. numbers_below p n ++ cond c (n ∷ []) []) is)

module _ {S : Type 0} where
  -- a lexeme is put
  pub put_lexeme : (m : Meaning S) (t : TIdx S) (p : Part) (span : SpanModel) (old new : List (Result (DefaultLexeme S) LRLexError)) → m ≡ Token t → span.start ≡ p.start → span.end ≡ p.start + p.len →
      new ≡ old ++ Ok (record { tok_id = t.0; span = span; faulty = false }) ∷ [] → (rest : List (Result (DefaultLexeme S) LRLexError)) → old ++ put_part m p rest ≡ new ++ rest
  put_lexeme m t p span old new means s e is rest =
      let same = ap₂ (λ a b. old ++ Ok (record { tok_id = t.0; span = record { start = a; end = b }; faulty = false }) ∷ rest) (sym s) (sym e) in
      ap (λ m. old ++ put_part m p rest) means ∙ same ∙ sym (append_assoc old (Ok (record { tok_id = t.0; span = span; faulty = false }) ∷ []) rest) ∙ ap (λ l. l ++ rest) (sym is)
