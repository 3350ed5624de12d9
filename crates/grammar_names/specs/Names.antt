-- Symbols, productions and items by their names. A number that the grammar doesn't have stands for no rule, no production, or the end.
use Rattle.std.specs.Prelude.{ℕ, List, [], ◌∷◌, ◌++◌, None, cond, ltb, map, get_or, take, drop, codes, length}
use Rattle.std.specs.List.{flat_map}
use Rattle.std.specs.Option.{unwrap_or}
use Rattle.cfg_theory.specs.Grammar.{Sym, rule, token, head_of, body_of}
use Rattle.cfg_numbered.specs.PrettyPrint.{name_of}
use Rattle.cfg_numbered.specs.Value.{GrammarValue, TokenFacts}

-- the name of a rule
abbrev pub rule_text : GrammarValue → ℕ → List ℕ
rule_text v A = cond (ltb A v.grammar.rules) (name_of v (rule A)) []

-- the name of a token; `$` for the end token, which has none
abbrev pub token_text : GrammarValue → ℕ → List ℕ
token_text v t = cond (ltb t v.grammar.tokens) (unwrap_or (get_or (map (λ (k : TokenFacts). k.name) v.tokens) t None) (codes "$")) (codes "$")

abbrev pub symbol_text : GrammarValue → Sym → List ℕ
symbol_text v (rule A) = rule_text v A
symbol_text v (token t) = token_text v t

-- a space, and a word
abbrev pub spaced : List ℕ → List ℕ
spaced name = codes " " ++ name

abbrev pub symbols_text : GrammarValue → List Sym → List ℕ
symbols_text v Xs = flat_map (λ X. spaced (symbol_text v X)) Xs

-- symbols, or that there are none
abbrev pub form_text : GrammarValue → List Sym → List ℕ
form_text v [] = spaced (codes "%empty")
form_text v (X ∷ Xs) = symbols_text v (X ∷ Xs)

-- `RULE:`
abbrev pub head_text : GrammarValue → ℕ → List ℕ
head_text v p = cond (ltb p (length v.grammar.productions)) (rule_text v (head_of v.grammar p)) [] ++ codes ":"

-- `RULE: X Y`
abbrev pub prod_text : GrammarValue → ℕ → List ℕ
prod_text v p = head_text v p ++ form_text v (body_of v.grammar p)

-- `RULE: X . Y`
abbrev pub item_text : GrammarValue → ℕ → ℕ → List ℕ
item_text v p d = head_text v p ++ symbols_text v (take d (body_of v.grammar p)) ++ spaced (codes ".") ++ symbols_text v (drop d (body_of v.grammar p))
