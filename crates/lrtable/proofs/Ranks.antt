-- The symbols of a grammar by their ranks.
use Rattle.std.proofs.Common.{◌≡◌, ℕ, zero, suc, ◌+◌, ◌-◌, ◌<◌, inl, inr, [], ◌∷◌, length, get_or, refl, sym, ap, ◌∙◌, arith, length-append}
use Rattle.std.proofs.lemmas.Bool.{cases_eq}
use Rattle.std.proofs.lemmas.List.{get_or_append_left, get_or-append_right, get_or_push}
use Rattle.cfg_theory.specs.Grammar.{Sym, rule, token, Grammar, InRange}
use Rattle.lr_theory.specs.Building.{counted, symbols}
use Rattle.lrtable.specs.Handling.{rank}

length_counted : (kind : ℕ → Sym) (n : ℕ) → length (counted kind n) ≡ n
length_counted kind zero = refl
length_counted kind (suc n) = let e = length_counted kind n in let a = length-append (counted kind n) (kind n ∷ []) in omega (arith, e, a)

at_counted : (kind : ℕ → Sym) (n k : ℕ) (d : Sym) → k < n → get_or (counted kind n) k d ≡ kind k
at_counted kind zero k d lt = absurd (omega arith)
at_counted kind (suc n) k d lt = elim (cases_eq k n) [
  | inl e ↦ get_or_push (counted kind n) (kind n) d k (length_counted kind n ∙ sym e) ∙ ap kind (sym e)
  | inr ne ↦ get_or_append_left (counted kind n) (kind n ∷ []) d k (let c = length_counted kind n in omega (arith, lt, ne, c)) ∙ at_counted kind n k d (omega (arith, lt, ne))
]

pub symbol_count : (G : Grammar) → length (symbols G) ≡ G.rules + G.tokens
unfolding symbols
symbol_count G = let a = length-append (counted rule G.rules) (counted token G.tokens) in let r = length_counted rule G.rules in let t = length_counted token G.tokens in omega (arith, a, r, t)

pub rank_below : (G : Grammar) (X : Sym) → InRange G X → rank G X < G.rules + G.tokens
rank_below G (rule A) h = omega (arith, h)
rank_below G (token t) h = omega (arith, h)

pub rank_at : (G : Grammar) (X : Sym) → InRange G X → get_or (symbols G) (rank G X) X ≡ X
unfolding symbols
rank_at G (rule A) h =
    get_or_append_left (counted rule G.rules) (counted token G.tokens) (rule A) A (let c = length_counted rule G.rules in omega (arith, h, c)) ∙ at_counted rule G.rules A (rule A) h
rank_at G (token t) h =
    get_or-append_right (counted rule G.rules) (counted token G.tokens) G.rules (G.rules + t) (token t) (length_counted rule G.rules) (omega arith) ∙
    ap (λ k. get_or (counted token G.tokens) k (token t)) (let e : G.rules + t - G.rules ≡ t = omega arith in e) ∙ at_counted token G.tokens t (token t) h

-- a rank is that of one symbol
pub rank_once : (G : Grammar) (X Y : Sym) → InRange G X → InRange G Y → rank G X ≡ rank G Y → X ≡ Y
rank_once G (rule A) (rule B) h k e = ap rule e
rank_once G (token t) (token u) h k e = ap token (omega (arith, e))
rank_once G (rule A) (token u) h k e = absurd (omega (arith, h, e))
rank_once G (token t) (rule B) h k e = absurd (omega (arith, k, e))
