-- Examples of conflicts as texts. What follows the string, and the forms behind an action, are left open.
use Rattle.std.specs.Prelude.{◌≡◌, ℕ, List, [], ◌∷◌, ◌++◌, Option, None, Some, codes, cond, eqb, unwrap_or}
use Rattle.cfg_base.specs.declared.symbol.PIdx.{PIdx}
use Rattle.cfg_base.specs.declared.symbol.SIdx.{SIdx}
use Rattle.cfg_theory.specs.Grammar.{Sym, end_token}
use Rattle.cfg_numbered.specs.Symbols.{syms_of}
use Rattle.cfg_numbered.specs.Value.{GrammarValue}
use Rattle.conflict_examples.specs.declared.examples.ActionExample.{ActionExample}
use Rattle.conflict_examples.specs.declared.examples.ConflictExample.{ConflictExample}
use Rattle.grammar_names.specs.Names.{item_text, prod_text, spaced, symbols_text, token_text}

-- open productions, each below the one around it and two spaces further in
abbrev pub spine_text : GrammarValue → List ℕ → List (PIdx ℕ × SIdx ℕ) → List ℕ
spine_text v front [] = []
spine_text v front (e ∷ es) = front ++ item_text v e.0.0 e.1.0 ++ codes "\n" ++ spine_text v (front ++ codes "  ") es

-- no token is shifted where the text ends
abbrev pub shift_text : GrammarValue → ℕ → List ℕ
shift_text v t = cond (eqb t (end_token v.grammar)) (codes "  accept") (codes "  shift" ++ spaced (token_text v t))

abbrev pub reduction_text : GrammarValue → ℕ → List ℕ
reduction_text v p = codes "  reduce " ++ prod_text v p

-- the string, and what follows it: the token, or what both actions have there
abbrev pub rest_text : GrammarValue → ℕ → List Sym → List ℕ
rest_text v t [] = spaced (token_text v t)
rest_text v t (X ∷ Xs) = symbols_text v (X ∷ Xs)

abbrev pub AddsString : GrammarValue → ConflictExample ℕ → List ℕ → List ℕ → Type 0
AddsString v x old new = (rest : List Sym) × (new ≡ old ++ codes "  Example:" ++ symbols_text v (syms_of (λ n. n) x.symbols.items) ++ codes " ." ++ rest_text v x.token.0 rest ++ codes "\n")

-- an action, its open productions, and what is behind the innermost of them
abbrev pub AddsAction : GrammarValue → List ℕ → ActionExample ℕ → List ℕ → List ℕ → Type 0
AddsAction v what a old new = (forms : List ℕ) × (new ≡ old ++ what ++ codes "\n" ++ spine_text v (codes "    ") a.spine.items ++ forms)

-- the string, and both actions: a pair of reductions, or a shift and a reduction
abbrev pub first_text : GrammarValue → ConflictExample ℕ → ℕ → Option (PIdx ℕ) → List ℕ
first_text v x p None = shift_text v x.token.0
first_text v x p (Some q) = reduction_text v p

abbrev pub AddsExample : GrammarValue → ConflictExample ℕ → PIdx ℕ → Option (PIdx ℕ) → List ℕ → List ℕ → Type 0
AddsExample v x p other old new =
    (string first : List ℕ) × AddsString v x old string × AddsAction v (first_text v x p.0 other) x.first string first × AddsAction v (reduction_text v (unwrap_or other p).0) x.second first new
