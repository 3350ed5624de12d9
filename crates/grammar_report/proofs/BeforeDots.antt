-- Tokens before a dot.
use Rattle.std.proofs.Common.{◌≡◌, ℕ, ◌+◌, ◌<◌, min, List, [], ◌∷◌, ◌++◌, length, get_or, take, sym, ap, ◌∙◌, arith}
use Rattle.std.proofs.lemmas.List.{map_more, take-map, take_min}
use Rattle.cfg_base.specs.declared.symbol.RIdx.{RIdx}
use Rattle.cfg_base.specs.declared.symbol.Symbol.{Symbol}
use Rattle.cfg_base.specs.declared.symbol.Symbol.TheVariants.{Rule, Token}
use Rattle.cfg_base.specs.declared.symbol.TIdx.{TIdx}
use Rattle.cfg_theory.specs.Grammar.{Sym, rule, token}
use Rattle.cfg_numbered.specs.Symbols.{sym_of, syms_of}
use Rattle.grammar_report.specs.Places.{token_count}

abbrev count_of : List (Symbol ℕ) → ℕ
count_of Xs = token_count (syms_of (λ n. n) Xs)

count_push : (Xs : List Sym) (X : Sym) → token_count (Xs ++ X ∷ []) ≡ token_count Xs + token_count (X ∷ [])
count_push [] X = omega arith
count_push (rule A ∷ Xs) X = count_push Xs X
count_push (token t ∷ Xs) X = omega (arith, count_push Xs X)

count_more : (Xs : List (Symbol ℕ)) (i : ℕ) (d X : Symbol ℕ) → i < length Xs → get_or Xs i d ≡ X → count_of (take (i + 1) Xs) ≡ count_of (take i Xs) + count_of (X ∷ [])
count_more Xs i d X lt at =
    ap token_count (map_more (sym_of (λ n. n)) Xs i d lt) ∙ count_push (syms_of (λ n. n) (take i Xs)) (sym_of (λ n. n) (get_or Xs i d))
    ∙ ap (λ Y. count_of (take i Xs) + count_of (Y ∷ [])) at

-- one more symbol
pub count_token : (Xs : List (Symbol ℕ)) (i : ℕ) (d : Symbol ℕ) (t : TIdx ℕ) → i < length Xs → get_or Xs i d ≡ Token t → count_of (take (i + 1) Xs) ≡ count_of (take i Xs) + 1
count_token Xs i d t lt at = count_more Xs i d (Token t) lt at

pub count_rule : (Xs : List (Symbol ℕ)) (i : ℕ) (d : Symbol ℕ) (A : RIdx ℕ) → i < length Xs → get_or Xs i d ≡ Rule A → count_of (take (i + 1) Xs) ≡ count_of (take i Xs)
count_rule Xs i d A lt at = let more = count_more Xs i d (Rule A) lt at in omega (arith, more)

-- the symbols up to a dot, or all where it is past them
pub count_all : (Xs : List (Symbol ℕ)) (Ys : List Sym) (d i : ℕ) → syms_of (λ n. n) Xs ≡ Ys → i ≡ min d (length Xs) → count_of (take i Xs) ≡ token_count (take d Ys)
count_all Xs Ys d i same at =
    ap token_count (ap (λ n. syms_of (λ n. n) (take n Xs)) at ∙ ap (syms_of (λ n. n)) (take_min d Xs) ∙ sym (take-map (sym_of (λ n. n)) d Xs) ∙ ap (take d) same)
