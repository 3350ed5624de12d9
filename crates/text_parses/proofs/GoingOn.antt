-- The tokens before the first error.
use Rattle.std.proofs.Common.{◌≡◌, ℕ, ◌+◌, ◌<◌, List, [], ◌∷◌, ◌++◌, drop, length, get_or, ap, sym, ◌∙◌, subst}
use Rattle.std.specs.Prelude.{Result, Ok}
use Rattle.std.proofs.lemmas.List.{at_drop_more}
use Rattle.lrlex.specs.declared.lex_error.LRLexError.{LRLexError}
use Rattle.lrpar.specs.Checked.{ParserValue}
use Rattle.lrpar.specs.NextTokens.{HasError}
use Rattle.lrpar.specs.Prefixes.{PrefixValue, grammar_in, machine_in, own}
use Rattle.text_parses.specs.NextTokens.{GoesOn, front_tokens}
use Rattle.text_parses.specs.Parses.{TextLexeme}

-- the token of the next lexeme is an error
pub stops_at : (d : ParserValue) (items : List (Result TextLexeme LRLexError)) (i : ℕ) (item : Result TextLexeme LRLexError) (x : TextLexeme) (p q : PrefixValue) → i < length items → get_or items i item ≡ Ok x → p.parser ≡ d →
    p.tokens ++ front_tokens (drop i items) ≡ front_tokens items → q ≡ p → HasError (grammar_in p.parser) (machine_in p.parser) own (p.tokens ++ x.tok_id ∷ []) → GoesOn d items q
stops_at d items i item x p q lt is parser whole same error =
    let left = at_drop_more front_tokens items i item lt ∙ ap (λ (y : Result TextLexeme LRLexError). front_tokens (y ∷ drop (i + 1) items)) is in
    let H : ParserValue → Type 0 = λ k. HasError (grammar_in k) (machine_in k) own (p.tokens ++ x.tok_id ∷ []) in
    let goes : GoesOn d items p = record {
      parser = parser;
      rest = x.tok_id ∷ front_tokens (drop (i + 1) items);
      are = sym whole ∙ ap (λ l. p.tokens ++ l) left;
      stops = subst H parser error;
    } in
    let G : PrefixValue → Type 0 = λ r. GoesOn d items r in
    subst G (sym same) goes
