-- Where a text has its productions, and the tokens of these.
use Rattle.std.specs.Prelude.{ℕ, suc, List, [], ◌∷◌, Option, filter, map, option_map, slice_get, take}
use Rattle.std.specs.Option.{option_and_then}
use Rattle.cfg_base.specs.SpanModel.{SpanModel}
use Rattle.cfg_base.specs.declared.symbol.PIdx.{PIdx}
use Rattle.cfg_base.specs.declared.symbol.SIdx.{SIdx}
use Rattle.cfg_theory.specs.Grammar.{Grammar, Sym, rule, token, body_of}
use Rattle.cfg_read.specs.Asts.{Ast, ProductionAst, SymbolAst}

-- the place of a production; none of one that is added to those of the text
abbrev pub production_place : Ast → ℕ → Option SpanModel
production_place a p = option_map (λ (r : ProductionAst). r.span) (slice_get a.productions p)

-- the places of the tokens among symbols of a text
abbrev pub token_places : List SymbolAst → List SpanModel
token_places Xs = map (λ (X : SymbolAst). X.word.span) (filter (λ (X : SymbolAst). X.is_token) Xs)

-- how many tokens symbols have
abbrev pub token_count : List Sym → ℕ
token_count [] = 0
token_count (rule A ∷ Xs) = token_count Xs
token_count (token t ∷ Xs) = suc (token_count Xs)

-- the place of the token after a dot: in the text it has as many tokens before it as in the grammar, which may have more rules
abbrev pub token_place : Ast → Grammar → PIdx ℕ × SIdx ℕ → Option SpanModel
token_place a G e = option_and_then (λ (r : ProductionAst). slice_get (token_places r.symbols) (token_count (take e.1.0 (body_of G e.0.0)))) (slice_get a.productions e.0.0)
