-- The precedences of a made grammar are those of its tree, where each level has one kind.
use Rattle.std.proofs.Common.{◌≡◌, ℕ, zero, suc, Bool, true, false, cond, List, [], ◌∷◌, map, Option, Some, None, All, slice_get, if◌then◌else◌, option_map, refl, sym, ap, ◌∙◌, subst}
use Rattle.std.specs.List.{find}
use Rattle.std.specs.Option.{option_and_then}
use Rattle.std.specs.Str.{bytes_eq}
use Rattle.std.proofs.lemmas.List.Elements.{All-nil, All-cons, All-append, All-map}
use Rattle.std.proofs.lemmas.Option.{same_Some, none-some}
use Rattle.cfg_base.specs.declared.precedence.AssocKind.{AssocKind}
use Rattle.cfg_base.specs.declared.precedence.Precedence.{Precedence}
use Rattle.cfg_read.specs.declared.yacc.YaccKind.{YaccKind}
use Rattle.cfg_read.specs.Asts.{Ast, PrecedenceAst}
use Rattle.cfg_read.specs.WellFormedAst as trees
use Rattle.cfg_numbered.specs.Value.{TokenFacts, ProductionFacts, end_facts, HasLevel, of_token, of_production, GrammarLevelsHaveOneKind, HasNoPrecedences}
use Rattle.cfgrammar.specs.FromAst.{file_token_facts, tokens_of, precedence_of, file_production_facts, added_production_facts, start_production, implicit_productions, production_facts_of, value_by, made, has_implicit}
use Rattle.cfgrammar.proofs.FromAstLookups.{all_at}

-- the level and kind of a tree's precedence
abbrev precedence_in : PrecedenceAst → Precedence
precedence_in p = record { level = p.level; kind = p.kind }

-- some precedence of the list has them
abbrev Declares : List PrecedenceAst → Precedence → Type 0
Declares ps r = (i : ℕ) × (p : PrecedenceAst) × (slice_get ps i ≡ Some p) × (precedence_in p ≡ r)

-- what a look-up finds is in the list
found : (test : PrecedenceAst → Bool) (ps : List PrecedenceAst) (r : Precedence) → option_map precedence_in (find test ps) ≡ Some r → Declares ps r
found test [] r e = absurd (none-some r e)
found test (p ∷ ps) r e = by (test p) e (found test ps r)
  where
    by : (b : Bool) → option_map precedence_in (cond b (Some p) (find test ps)) ≡ Some r → (option_map precedence_in (find test ps) ≡ Some r → Declares ps r) → Declares (p ∷ ps) r
    by true e rest = (zero, p, refl, same_Some (precedence_in p) r e)
    by false e rest = let h = rest e in (suc h.0, h.1, h.2, h.3)

-- a precedence, where there is one, is of the tree
abbrev IsDeclared : Ast → Option Precedence → Type 0
IsDeclared ast o = (r : Precedence) → o ≡ Some r → Declares ast.precedences r

of_name : (ast : Ast) (name : List ℕ) → IsDeclared ast (precedence_of ast name)
of_name ast name r e = found (λ (p : PrecedenceAst). bytes_eq name p.token.text) ast.precedences r e

of_name_if : (ast : Ast) (name : Option (List ℕ)) → IsDeclared ast (option_and_then (precedence_of ast) name)
of_name_if ast None r e = absurd (none-some r e)
of_name_if ast (Some name) r e = of_name ast name r e

none_declared : (ast : Ast) → IsDeclared ast None
none_declared ast r e = absurd (none-some r e)

tokens_declared : (ast : Ast) → All (λ (k : TokenFacts). IsDeclared ast k.precedence) (tokens_of ast)
tokens_declared ast =
    All-append (λ (k : TokenFacts). IsDeclared ast k.precedence) (map (file_token_facts ast) ast.tokens) (end_facts ∷ [])
    (All-map (λ (k : TokenFacts). IsDeclared ast k.precedence) (file_token_facts ast) ast.tokens (λ i d below. of_name ast _))
    (All-cons (λ (k : TokenFacts). IsDeclared ast k.precedence) end_facts [] (none_declared ast) (All-nil (λ (k : TokenFacts). IsDeclared ast k.precedence)))

productions_declared : (b : Bool) (ast : Ast) → All (λ (q : ProductionFacts). IsDeclared ast q.precedence) (production_facts_of b ast)
productions_declared b ast =
    let added = start_production b ast ∷ (if b then implicit_productions ast else []) in
    All-append (λ (q : ProductionFacts). IsDeclared ast q.precedence) (map (file_production_facts ast) ast.productions) (map added_production_facts added)
    (All-map (λ (q : ProductionFacts). IsDeclared ast q.precedence) (file_production_facts ast) ast.productions (λ i d below. of_name_if ast _))
    (All-map (λ (q : ProductionFacts). IsDeclared ast q.precedence) added_production_facts added (λ i d below. none_declared ast))

-- and so are those of a list, by their indices
declared_at : {X : Type 0} (ast : Ast) (precedence : X → Option Precedence) (xs : List X) → All (λ x. IsDeclared ast (precedence x)) xs → (i : ℕ) (r : Precedence) → option_map precedence (slice_get xs i) ≡ Some (Some r) → Declares ast.precedences r
declared_at {X} ast precedence xs h i r e = by (slice_get xs i) refl e
  where
    by : (o : Option X) → slice_get xs i ≡ o → option_map precedence o ≡ Some (Some r) → Declares ast.precedences r
    by None at e = absurd (none-some (Some r) e)
    by (Some x) at e = all_at (λ x. IsDeclared ast (precedence x)) xs i x h at r (same_Some (precedence x) (Some r) e)

level_declared : (b : Bool) (ast : Ast) (level : ℕ) (kind : AssocKind) → HasLevel (value_by b ast) level kind → Declares ast.precedences (record { level = level; kind = kind })
level_declared b ast level kind (of_token t e) = declared_at ast (λ (k : TokenFacts). k.precedence) (tokens_of ast) (tokens_declared ast) t (record { level = level; kind = kind }) e
level_declared b ast level kind (of_production p e) = declared_at ast (λ (q : ProductionFacts). q.precedence) (production_facts_of b ast) (productions_declared b ast) p (record { level = level; kind = kind }) e

pub made_levels : (b : Bool) (ast : Ast) → trees.AstLevelsHaveOneKind ast.precedences → GrammarLevelsHaveOneKind (value_by b ast)
made_levels b ast one level j k x y =
    let f = level_declared b ast level j x in
    let g = level_declared b ast level k y in
    sym (ap (λ (r : Precedence). r.kind) f.3)
    ∙ one f.0 g.0 f.1 g.1 f.2 g.2 (ap (λ (r : Precedence). r.level) f.3 ∙ sym (ap (λ (r : Precedence). r.level) g.3))
    ∙ ap (λ (r : Precedence). r.kind) g.3

-- where no precedence is declared there is none
none_in : (ps : List PrecedenceAst) (r : Precedence) → ps ≡ [] → Declares ps r → ⊥
none_in ps r e (i, p, at, is) = none-some p (subst (λ l. slice_get l i ≡ Some p) e at)

pub made_without_precedences : (kind : YaccKind) (ast : Ast) → ast.precedences ≡ [] → HasNoPrecedences (made kind ast)
made_without_precedences kind ast e = record {
  of_token = λ t r at. none_in ast.precedences r e (declared_at ast (λ (k : TokenFacts). k.precedence) (tokens_of ast) (tokens_declared ast) t r at);
  of_production = λ p r at. none_in ast.precedences r e (declared_at ast (λ (q : ProductionFacts). q.precedence) (production_facts_of (has_implicit kind ast) ast) (productions_declared (has_implicit kind ast) ast) p r at);
}
