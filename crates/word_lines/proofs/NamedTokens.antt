-- The token that has a name is the one that is looked up by it.
use Rattle.std.proofs.Common.{◌≡◌, ℕ, ◌<◌, ◌≤◌, ◌-◌, ⊎_elim, subst, Bool, true, false, cond, ltb, Option, Some, None, Ok, List, length, get_or, option_map, slice_get, IfSome, IfNone, refl, sym, ap, ap₂, ◌+◌, ◌∙◌, arith, lt-ltb, le-ltb}
use Rattle.std.specs.Borrow.{Bor}
use Rattle.std.specs.List.{position_or_len}
use Rattle.std.specs.Option.{MatchOption}
use Rattle.std.proofs.lemmas.Bool.{cases_lt}
use Rattle.cfg_theory.specs.Grammar.{end_token}
use Rattle.std.proofs.lemmas.List.Sums.{position_or_len_is}
use Rattle.std.proofs.lemmas.List.Quantifiers.{position-Some}
use Rattle.std.proofs.lemmas.Option.{slice_get-get_or, slice_get_within, get_or_from_slice_get}
use Rattle.std.proofs.lemmas.Slice.Eq.{bytes_eq-Decides}
use Rattle.cfg_base.specs.SpanModel.{SpanModel}
use Rattle.cfg_base.specs.declared.symbol.TIdx.{TIdx}
use Rattle.cfg_numbered.specs.Value.{TokenFacts, GrammarValue, IsTokenNamed, end_facts}
use Rattle.word_lines.specs.Words.{Word, is_called, token_named}
use Rattle.word_lines.specs.Lexing.{span_of, item_by, item_of}

called_is : (name : List ℕ) (o : Option (List ℕ)) → is_called name o ≡ true → o ≡ Some name
called_is name None h = cc
called_is name (Some n) h = ap Some ((bytes_eq-Decides n name).0 h)

called_self : (name : List ℕ) (o : Option (List ℕ)) → o ≡ Some name → is_called name o ≡ true
called_self name o e = ap (is_called name) e ∙ (bytes_eq-Decides name name).1 refl

at_named : (o : Option TokenFacts) (name : List ℕ) → option_map (λ k. k.name) o ≡ Some (Some name) → (k : TokenFacts) × (o ≡ Some k) × (k.name ≡ Some name)
at_named None name e = cc
at_named (Some k) name e = let h : k.name ≡ Some name = cc in (k, refl, h)

not_called : (g : GrammarValue) (name : List ℕ) (k : ℕ) → (IsTokenNamed g k name → ⊥) → k < length g.tokens → is_called name (get_or g.tokens k end_facts).name ≡ false
not_called g name k never lt = by (is_called name (get_or g.tokens k end_facts).name) refl
  where
    by : (b : Bool) → is_called name (get_or g.tokens k end_facts).name ≡ b → is_called name (get_or g.tokens k end_facts).name ≡ false
    by true e = absurd (never (record { at = ap (option_map (λ t. t.name)) (slice_get-get_or g.tokens k end_facts lt) ∙ ap Some (called_is name (get_or g.tokens k end_facts).name e) }))
    by false e = e

found : (g : GrammarValue) (name : List ℕ) (t : ℕ) → ((t u : ℕ) → IsTokenNamed g t name → IsTokenNamed g u name → t ≡ u) → IsTokenNamed g t name → Some t ≡ token_named g name
found g name t only n =
    let ts = g.tokens in
    let w = at_named (slice_get ts t) name n.at in
    let inside : t < length ts = slice_get_within ts t w.0 w.1 in
    let is : (get_or ts t end_facts).name ≡ Some name = ap (λ (k : TokenFacts). k.name) (get_or_from_slice_get ts t w.0 end_facts w.1) ∙ w.2 in
    let e : position_or_len (λ (k : TokenFacts). is_called name k.name) ts ≡ t = position_or_len_is (λ (k : TokenFacts). is_called name k.name) ts t end_facts (omega (arith, inside))
    (λ k lt. not_called g name k (λ m. let same = only k t m n in absurd (omega (arith, same, lt))) (omega (arith, inside, lt)))
    (λ _. called_self name (get_or ts t end_facts).name is) in
    sym (ap (λ i. cond (ltb i (length ts)) (Some i) None) e ∙ ap (λ b. cond b (Some t) None) (lt-ltb t (length ts) inside))

missing : (g : GrammarValue) (name : List ℕ) → ((t : ℕ) → IsTokenNamed g t name → ⊥) → None ≡ token_named g name
missing g name never =
    let ts = g.tokens in
    let e : position_or_len (λ (k : TokenFacts). is_called name k.name) ts ≡ length ts = position_or_len_is (λ (k : TokenFacts). is_called name k.name) ts (length ts) end_facts (omega arith)
    (λ k lt. not_called g name k (never k) lt)
    (λ lt. absurd (omega (arith, lt))) in
    sym (ap (λ i. cond (ltb i (length ts)) (Some i) None) e ∙ ap (λ b. cond b (Some (length ts)) None) (le-ltb (length ts) (length ts) (omega arith)))

pub looked_up : {S : Type 0} (number : S → ℕ) (g : GrammarValue) (name : List ℕ) (r : Option (TIdx S)) → IfSome r (λ t. IsTokenNamed g (number t.0) name) → IfNone r ((t : ℕ) → IsTokenNamed g t name → ⊥) →
    ((t u : ℕ) → IsTokenNamed g t name → IsTokenNamed g u name → t ≡ u) → option_map (λ t. number t.0) r ≡ token_named g name
looked_up number g name (Some t) some none only = found g name (number t.0) only some
looked_up number g name None some none only = missing g name none

-- and it is one of the grammar's
pub named_within : (g : GrammarValue) (name : List ℕ) (t : ℕ) → token_named g name ≡ Some t → IsTokenNamed g t name
named_within g name t e =
    let p = λ (k : TokenFacts). is_called name k.name in
    let f = position-Some p g.tokens t end_facts e in
    record { at = ap (option_map (λ k. k.name)) (slice_get-get_or g.tokens t end_facts f.0) ∙ ap Some (called_is name (get_or g.tokens t end_facts).name f.1) }

-- the item of a word whose token was found
pub item_found : {S : Type 0} (number : S → ℕ) (of_number : ℕ → S) (top : ℕ) → ((x y : S) → number x ≡ number y → x ≡ y) → ((n : ℕ) → n ≤ top → number (of_number n) ≡ n) → (g : GrammarValue) (w : Word) (x : S) (n : ℕ) → n ≤ top → n ≡ number x →
    Some (number x) ≡ token_named g w.text → Ok (record { token = x; span = span_of w; faulty = false }) ≡ item_of of_number g w
item_found number of_number top injective of_is g w x n fits value e =
    let back : x ≡ of_number (number x) = injective x (of_number (number x)) (sym (of_is (number x) (omega (arith, fits, value)))) in
    ap (λ t. Ok (record { token = t; span = span_of w; faulty = false })) back ∙ ap (item_by of_number w) e

pub named_inside : (g : GrammarValue) (name : List ℕ) (t : ℕ) → IsTokenNamed g t name → t < length g.tokens
named_inside g name t n = let w = at_named (slice_get g.tokens t) name n.at in slice_get_within g.tokens t w.0 w.1

pub item_with : {S : Type 0} (of_number : ℕ → S) (g : GrammarValue) (w : Word) (x : S) (span : SpanModel) → span.start ≡ w.start → span.end ≡ w.start + length w.text → Ok (record { token = x; span = span_of w; faulty = false }) ≡ item_of of_number g w →
    Ok (record { token = x; span = span; faulty = false }) ≡ item_of of_number g w
item_with of_number g w x span s e is = ap₂ (λ a b. Ok (record { token = x; span = record { start = a; end = b }; faulty = false })) s e ∙ is

-- the end token has no name
unnamed : (g : GrammarValue) (e : ℕ) (r : Option (Bor (List ℕ))) → e ≡ end_token g.grammar → option_map (λ t. t.name) (slice_get g.tokens e) ≡ Some (option_map (λ s. s.now) r) → MatchOption r (e ≡ end_token g.grammar) (λ _. e < end_token g.grammar) →
    (name : List ℕ) → IsTokenNamed g (end_token g.grammar) name → ⊥
unnamed g e None same is end name n = let f = ap (λ k. option_map (λ t. t.name) (slice_get g.tokens k)) (sym same) ∙ is in let h = sym f ∙ n.at in cc
unnamed g e (Some s) same is end name n = absurd (omega (arith, same, end))

within : (end t : ℕ) → t < end → (t ≡ end - 1 → ⊥) → t < end - 1
within end t lt other = ⊎_elim (λ h. h) (λ h. let e : t ≡ end - 1 = omega (arith, lt, h) in absurd (other e)) (cases_lt t (end - 1))

-- so a token with a name isn't the end
pub inside : {S : Type 0} (number : S → ℕ) (g : GrammarValue) (name : List ℕ) (r : Option (TIdx S)) → IfSome r (λ t. IsTokenNamed g (number t.0) name) → IfSome r (λ t. number t.0 < g.grammar.tokens) →
    (e : ℕ) (s : Option (Bor (List ℕ))) → e ≡ end_token g.grammar → option_map (λ t. t.name) (slice_get g.tokens e) ≡ Some (option_map (λ s. s.now) s) → MatchOption s (e ≡ end_token g.grammar) (λ _. e < end_token g.grammar) →
    IfSome r (λ t. number t.0 < end_token g.grammar)
inside number g name None named lt e s same is end = tt
inside number g name (Some t) named lt e s same is end = within g.grammar.tokens (number t.0) lt (λ h. unnamed g e s same is end name (subst (λ k. IsTokenNamed g k name) h named))
