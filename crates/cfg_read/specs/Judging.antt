-- How a tree and the failures of a text are put together.
use Rattle.std.specs.Prelude.{◌≡◌, ℕ, zero, suc, Bool, true, false, List, [], ◌∷◌, ◌++◌, map, fold, replicate}
use Rattle.std.specs.List.{flat_map}
use Rattle.cfg_read.specs.NameTexts.{name_text}
use Rattle.cfg_base.specs.SpanModel.{SpanModel}
use Rattle.cfg_read.specs.declared.yacc.ast.build.Head.{Head}
use Rattle.cfg_read.specs.SyntaxTexts.{WordText, RuleText, SyntaxText}
use Rattle.cfg_read.specs.Asts.{Ast, RuleAst, SymbolAst, ProductionAst, fresh_production, heads_in, productions_in, numbers_from, start_of}
use Rattle.cfg_read.specs.AstBuild.{blank_headings, fresh_rule, with_first}
use Rattle.cfg_read.specs.Settling.{FreshAst, UsesText, AreUsesOf}
use Rattle.cfg_read.specs.Names.{is_among, declared_tokens}

-- a syntax with these rules, and whether a list has items
abbrev pub with_rules : SyntaxText → List RuleText → SyntaxText
with_rules x rules = record x { rules = rules }

abbrev pub has_items : {A : Type 0} → List A → Bool
has_items [] = false
has_items (a ∷ more) = true

-- for each alternative of headings the name of its rule
abbrev pub head_names : Head → List (List ℕ)
head_names h = replicate h.count (name_text h.name)

abbrev pub heads_of : List Head → List (List ℕ)
heads_of hs = flat_map head_names hs

-- a rule with those of these productions that are its own, counted from n
abbrev pub with_numbers_at : ℕ → List (List ℕ) → RuleAst → RuleAst
with_numbers_at n heads r = record { name = r.name; productions = r.productions ++ numbers_from r.name.text n heads; action_type = r.action_type }

-- so many numbers from n on
abbrev pub count_up : ℕ → ℕ → List ℕ
count_up n zero = []
count_up n (suc k) = n ∷ count_up (suc n) k

-- the two productions of a fresh rule at this span, and its name for each
abbrev pub both_at : SpanModel → SymbolAst → List ProductionAst
both_at at inner = fresh_production at (inner ∷ []) ∷ fresh_production at [] ∷ []

abbrev pub both_of : FreshAst → List ProductionAst
both_of f = both_at f.word.span f.inner

abbrev pub both_heads : FreshAst → List (List ℕ)
both_heads f = f.word.text ∷ f.word.text ∷ []

abbrev pub words_of_fresh : List FreshAst → List WordText
words_of_fresh fs = map (λ (f : FreshAst). f.word) fs

-- a tree with the start rule and the rules of the headings of a text, without productions
abbrev pub with_headings_of : SyntaxText → Ast → Ast
with_headings_of x ast = record ast { start = start_of x; rules = blank_headings x }

-- with these productions and fresh rules, where each production of the file has the name of its rule in a list
abbrev pub with_productions_of : List ProductionAst → List (List ℕ) → List FreshAst → Ast → Ast
with_productions_of prods heads fresh ast = record ast {
  productions = prods ++ flat_map both_of fresh;
  rules = map (with_numbers_at 0 (heads ++ flat_map both_heads fresh)) (fold with_first ast.rules (map fresh_rule (words_of_fresh fresh)));
}

abbrev pub with_tokens : List WordText → Bool → Ast → Ast
with_tokens tokens valid ast = record ast { tokens = tokens; is_valid = valid }

-- with the lines of another
abbrev pub with_lines_of : Ast → Ast → Ast
with_lines_of from ast = record ast { precedences = from.precedences; avoid_insert = from.avoid_insert; implicit_tokens = from.implicit_tokens; epp = from.epp }

-- a tree that was filled with the productions and the rules of a text, by what was collected of all its alternatives
pub record IsJudged (x : SyntaxText) (u : UsesText) (old new : Ast) : Type 0 where
  pub uses : AreUsesOf x u
  pub is : new ≡ with_productions_of (flat_map (productions_in (is_among (declared_tokens x))) x.rules) (flat_map heads_in x.rules) u.fresh old
