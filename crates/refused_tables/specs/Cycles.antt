-- Productions that are reduced round and round, and what a report says of them.
use Rattle.std.specs.Prelude.{◌≡◌, ℕ, ◌-◌, ◌<◌, List, [], ◌∷◌, ◌++◌, Option, None, Some, codes, length, slice_get, ⊤}
use Rattle.std.specs.List.{flat_map}
use Rattle.cfg_base.specs.declared.symbol.PIdx.{PIdx}
use Rattle.cfg_theory.specs.Grammar.{Grammar, Sym, rule, body_of, head_of, symbol_at}
use Rattle.cfg_numbered.specs.Value.{GrammarValue}
use Rattle.grammar_names.specs.Names.{prod_text, spaced, symbols_text, token_text}

-- behind a reduction by p, q may be reduced before the same token: it has no symbols, or the rule of p last
pub data Continues (G : Grammar) (p q : ℕ) : Type 0 where
  empty : length (body_of G q) ≡ 0 → Continues G p q
  over : symbol_at G q (length (body_of G q) - 1) ≡ Some (rule (head_of G p)) → Continues G p q

-- productions of the grammar, each of which continues the one before, and the first of them p
abbrev pub Continue : Grammar → ℕ → List ℕ → Type 0
Continue G p [] = ⊤
Continue G p (q ∷ qs) = (q < length G.productions) × Continues G p q × Continue G q qs

-- a round: there is a last one, which the first continues
pub record IsRound (G : Grammar) (ps : List ℕ) : Type 0 where
  pub last : ℕ
  pub is_last : slice_get ps (length ps - 1) ≡ Some last
  pub continue : Continue G last ps

-- `: before b, `
abbrev pub ahead_text : GrammarValue → ℕ → List ℕ
ahead_text v t = codes ": before" ++ spaced (token_text v t) ++ codes ", "

-- `, then F: E`
abbrev pub others_text : GrammarValue → List ℕ → List ℕ
others_text v ps = flat_map (λ p. codes ", then " ++ prod_text v p) ps

-- `: before b, E: %empty, then F: E, again and again`
abbrev pub round_text : GrammarValue → ℕ → ℕ → List ℕ → List ℕ
round_text v t p ps = ahead_text v t ++ prod_text v p ++ others_text v ps ++ codes ", again and again"

abbrev pub front_words : List Sym → List ℕ
front_words [] = codes "they begin at the front of a text"
front_words (X ∷ Xs) = codes "they begin behind"

-- `they begin behind x y`
abbrev pub front_text : GrammarValue → List Sym → List ℕ
front_text v Xs = front_words Xs ++ symbols_text v Xs

-- a round is added to the words of an error, and to its help where it begins; nothing where none is found
abbrev pub AddsRound : GrammarValue → ℕ → Option (PIdx ℕ) → List ℕ × List ℕ → List ℕ × List ℕ → Type 0
AddsRound v t None old new = new ≡ old
AddsRound v t (Some p) old new = (ps : List ℕ) × (before : List Sym) × IsRound v.grammar (p.0 ∷ ps) × (new ≡ (old.0 ++ round_text v t p.0 ps, old.1 ++ front_text v before))
