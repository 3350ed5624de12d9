-- A production as text.
use Rattle.std.specs.Prelude.{ℕ, List, [], ◌∷◌, ◌++◌, None, map, get_or}
use Rattle.std.specs.List.{flat_map}
use Rattle.std.specs.Option.{unwrap_or}
use Rattle.cfg_theory.specs.Grammar.{Sym, rule, token, head_of, body_of}
use Rattle.cfg_numbered.specs.Value.{GrammarValue, RuleFacts, TokenFacts}

-- the name of a symbol's rule or token
abbrev pub name_of : GrammarValue → Sym → List ℕ
name_of g (rule A) = get_or (map (λ (r : RuleFacts). r.name) g.rules) A []
name_of g (token t) = unwrap_or (get_or (map (λ (k : TokenFacts). k.name) g.tokens) t None) []

-- a space, and the name between quotation marks
abbrev pub quoted : List ℕ → List ℕ
quoted name = (32 ∷ 34 ∷ name) ++ 34 ∷ []

-- the rule's name, a colon, and the quoted names of the symbols
abbrev pub production_text : GrammarValue → ℕ → List ℕ
production_text g p = (name_of g (rule (head_of g.grammar p)) ++ 58 ∷ []) ++ flat_map (λ X. quoted (name_of g X)) (body_of g.grammar p)
