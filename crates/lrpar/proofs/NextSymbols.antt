-- The symbol behind a dot, read from a list.
use Rattle.std.proofs.Common.{◌≡◌, ◌<◌, ◌≤◌, ℕ, zero, suc, List, [], ◌∷◌, Bool, true, false, length, Some, get_or, refl, sym, ap, ◌∙◌, arith, ⊎_elim}
use Rattle.std.specs.Prelude.{slice_get, option_map}
use Rattle.std.proofs.lemmas.Bool.{cases_lt}
use Rattle.std.proofs.lemmas.List.{length-map}
use Rattle.std.proofs.lemmas.Option.{slice_get_past, slice_get_read, slice_get-map, same_Some}
use Rattle.cfg_theory.specs.Grammar.{Sym, Grammar, Production, body_of, IsNext}
use Rattle.cfg_base.specs.declared.symbol.Symbol.{Symbol}
use Rattle.cfg_numbered.specs.Symbols.{sym_of, syms_of}
use Rattle.cfg_theory.specs.Decides.{Decides}

body_past : (ps : List Production) (p : ℕ) → length ps ≤ p → (get_or ps p (record { head = 0; body = [] })).body ≡ []
body_past [] p le = refl
body_past (x ∷ ps) zero le = absurd (omega (arith, le))
body_past (x ∷ ps) (suc p) le = body_past ps p (omega (arith, le))

no_symbol : (G : Grammar) (p d : ℕ) (X : Sym) → length G.productions ≤ p → IsNext G p d X → ⊥
unfolding body_of
no_symbol G p d X le h = let e : slice_get [] d ≡ Some X = ap (λ (l : List Sym). slice_get l d) (sym (body_past G.productions p le)) ∙ h.at in cc e

-- a symbol stands behind the dot of productions of the grammar alone
pub no_body : (G : Grammar) (p d : ℕ) (X : Sym) → IsNext G p d X → p < length G.productions
no_body G p d X h = ⊎_elim (λ lt. lt) (λ le. absurd (no_symbol G p d X le h)) (cases_lt p (length G.productions))

pub past_end : {S : Type 0} (number : S → ℕ) (G : Grammar) (p d : ℕ) (X : Sym) (xs : List (Symbol S)) → syms_of number xs ≡ body_of G p → length xs ≤ d → IsNext G p d X → ⊥
past_end number G p d X xs e le h =
    let same : length (syms_of number xs) ≡ length xs = length-map xs (sym_of number) in
    let none = slice_get_past (syms_of number xs) d (omega (arith, same, le)) in
    cc (sym none ∙ ap (λ (l : List Sym). slice_get l d) e ∙ h.at)

symbol_is : {S : Type 0} (number : S → ℕ) (G : Grammar) (p d i : ℕ) (y : Symbol S) (xs : List (Symbol S)) → syms_of number xs ≡ body_of G p → i ≡ d → i < length xs → y ≡ get_or xs i y → slice_get (body_of G p) d ≡ Some (sym_of number y)
symbol_is number G p d i y xs e at lt is =
    let here : slice_get xs i ≡ Some y = slice_get_read xs (length xs) i y refl lt is in
    let seen : slice_get (syms_of number xs) i ≡ Some (sym_of number y) = slice_get-map (sym_of number) xs i ∙ ap (λ o. option_map (sym_of number) o) here in
    ap (slice_get (body_of G p)) (sym at) ∙ ap (λ (l : List Sym). slice_get l i) (sym e) ∙ seen

pub tells_next : {S : Type 0} (number : S → ℕ) (G : Grammar) (p d i : ℕ) (x y : Symbol S) (b : Bool) (xs : List (Symbol S)) → syms_of number xs ≡ body_of G p → i ≡ d → i < length xs → y ≡ get_or xs i y → Decides (sym_of number y ≡ sym_of number x) b → Decides (IsNext G p d (sym_of number x)) b
tells_next number G p d i x y true xs e at lt is t = record { at = symbol_is number G p d i y xs e at lt is ∙ ap Some t }
tells_next number G p d i x y false xs e at lt is t = λ h. t (same_Some (sym_of number y) (sym_of number x) (sym (symbol_is number G p d i y xs e at lt is) ∙ h.at))
