-- What contracts see of a grammar value.
use Rattle.std.specs.Prelude.{◌≡◌, ℕ, ◌<◌, ◌≤◌, ◌==◌, Bool, false, List, [], ◌∷◌, length, Option, None, Some, slice_get, option_map, filter}
use Rattle.std.specs.List.{range_with_len}
use Rattle.std.specs.Option.{option_or}
use Rattle.cfg_base.specs.SpanModel.{SpanModel}
use Rattle.cfg_base.specs.declared.precedence.AssocKind.{AssocKind}
use Rattle.cfg_base.specs.declared.precedence.Precedence.{Precedence}
use Rattle.cfg_theory.specs.Grammar.{Grammar, head_of, body_of, end_token, WellFormed}

pub record RuleFacts : Type 0 where
  pub name : List ℕ
  pub span : SpanModel
  -- the type of its actions
  pub action_type : Option (List ℕ)

pub record TokenFacts : Type 0 where
  pub name : Option (List ℕ)
  pub span : Option SpanModel
  -- the text of `%epp`
  pub epp : Option (List ℕ)
  pub precedence : Option Precedence
  -- whether `%avoid_insert` has it
  pub is_avoided : Bool

-- the end token has none of these
abbrev pub end_facts : TokenFacts
end_facts = record { name = None; span = None; epp = None; precedence = None; is_avoided = false }

-- the text by which messages show it
abbrev pub shown_text : TokenFacts → Option (List ℕ)
shown_text t = option_or t.epp t.name

pub record ProductionFacts : Type 0 where
  pub span : SpanModel
  pub precedence : Option Precedence
  pub action : Option (List ℕ)
  pub action_span : Option SpanModel

-- the name and the type of `%parse-param`
pub record ParamFacts : Type 0 where
  pub name : List ℕ
  pub param_type : List ℕ

-- what is kept of the whole text
pub record KeptFacts : Type 0 where
  -- the number of the rule `~`
  pub implicit_rule : Option ℕ
  pub parse_param : Option ParamFacts
  pub parse_generics : Option (List ℕ)
  pub programs : Option (List ℕ)
  -- how many conflicts are expected, of shifts with reductions and among reductions
  pub expect : Option ℕ
  pub expect_rr : Option ℕ

-- the productions by numbers, and what stands beside each number
pub record GrammarValue : Type 0 where
  pub grammar : Grammar
  pub rules : List RuleFacts
  pub tokens : List TokenFacts
  pub productions : List ProductionFacts
  pub kept : KeptFacts

-- the rule A has this name
pub record IsRuleNamed (g : GrammarValue) (A : ℕ) (name : List ℕ) : Type 0 where
  pub at : option_map (λ r. r.name) (slice_get g.rules A) ≡ Some name

-- the token t has this name
pub record IsTokenNamed (g : GrammarValue) (t : ℕ) (name : List ℕ) : Type 0 where
  pub at : option_map (λ k. k.name) (slice_get g.tokens t) ≡ Some (Some name)

-- some token or production has a precedence of this level and kind
pub data HasLevel (g : GrammarValue) (level : ℕ) (kind : AssocKind) : Type 0 where
  of_token : (t : ℕ) → option_map (λ k. k.precedence) (slice_get g.tokens t) ≡ Some (Some (record { level = level; kind = kind })) → HasLevel g level kind
  of_production : (p : ℕ) → option_map (λ q. q.precedence) (slice_get g.productions p) ≡ Some (Some (record { level = level; kind = kind })) → HasLevel g level kind

-- each level has one kind
abbrev pub GrammarLevelsHaveOneKind : GrammarValue → Type 0
GrammarLevelsHaveOneKind g = (level : ℕ) (j k : AssocKind) → HasLevel g level j → HasLevel g level k → j ≡ k

-- no token and no production has a precedence
pub record HasNoPrecedences (g : GrammarValue) : Type 0 where
  pub of_token : (t : ℕ) (r : Precedence) → option_map (λ k. k.precedence) (slice_get g.tokens t) ≡ Some (Some r) → ⊥
  pub of_production : (p : ℕ) (r : Precedence) → option_map (λ q. q.precedence) (slice_get g.productions p) ≡ Some (Some r) → ⊥

-- the productions of the rule A, in order
abbrev pub productions_of : Grammar → ℕ → List ℕ
productions_of G A = filter (λ p. head_of G p == A) (range_with_len 0 (length G.productions))

-- no count passes `top`
pub record Fits (top : ℕ) (G : Grammar) : Type 0 where
  pub rules : G.rules ≤ top
  pub tokens : G.tokens ≤ top
  pub productions : length G.productions ≤ top
  pub symbols : (p : ℕ) → length (body_of G p) ≤ top

-- what is so of every grammar value
pub record IsGrammar (top : ℕ) (g : GrammarValue) : Type 0 where
  pub well_formed : WellFormed g.grammar
  pub fits : Fits top g.grammar
  -- there is one of each beside each number
  pub rules : length g.rules ≡ g.grammar.rules
  pub tokens : length g.tokens ≡ g.grammar.tokens
  pub productions : length g.productions ≡ length g.grammar.productions
  -- names are those of one rule, and of one token
  pub rule_names : (A B : ℕ) (name : List ℕ) → IsRuleNamed g A name → IsRuleNamed g B name → A ≡ B
  pub token_names : (t u : ℕ) (name : List ℕ) → IsTokenNamed g t name → IsTokenNamed g u name → t ≡ u
  -- each token but the end token has a name
  pub named : (t : ℕ) → t < end_token g.grammar → (name : List ℕ) × IsTokenNamed g t name
  pub end_unnamed : slice_get g.tokens (end_token g.grammar) ≡ Some end_facts
  -- precedences of one level have one kind
  pub levels : GrammarLevelsHaveOneKind g
  -- the implicit rule is `~`
  pub implicit_rule : (A : ℕ) → g.kept.implicit_rule ≡ Some A → IsRuleNamed g A (126 ∷ [])
