-- A small grammar on which each definition is met: ^: S; S: 'a' S | B; B: 'b' | ;
use Rattle.std.specs.Prelude.{◌≡◌, ℕ, zero, suc, ◌+◌, ◌*◌, Bool, true, false, IsTrue, List, [], ◌∷◌, ◌++◌, Option, Some, None}
use Rattle.cfg_theory.specs.Grammar.{Sym, rule, token, Production, Grammar, WellFormed, start_symbol}
use Rattle.cfg_theory.specs.Derivation.{Nullable, IsFirst, IsFirstBefore, IsFollow, HasPath, AllProductive, IsSentence, BeginsSentence}
use Rattle.cfg_theory.specs.Tree.{Tree, leaf, node, none, before, IsDerivation}
use Rattle.cfg_theory.specs.Fold.{Span, no_span, span_of, fold, by_functions, Folds}
use Rattle.cfg_theory.specs.First.{IsFirstTable}
use Rattle.cfg_theory.specs.Follow.{IsFollowTable}
use Rattle.cfg_theory.specs.Path.{IsReachTable}
use Rattle.cfg_theory.specs.Productive.{IsProductiveTable}
use Rattle.cfg_theory.specs.Cost.{IsLeastCost, IsGreatestCost, IsUnbounded, IsBefore, AreCheapest}
use Rattle.cfg_theory.specs.Greatest.{AreUnbounded, Gains, IsNarrowed, IsKeptTable}
use Rattle.cfg_theory.specs.CheapestLists.{NoneIsCheaper, IsTight, HaveCosts, IsClosedOver}
use Rattle.cfg_theory.specs.CostTables.{IsLeastTable, IsGreatestTable, IsCheapestTable, Surrounds}

abbrev pub production : ℕ → List Sym → Production
production A body = record { head = A; body = body }

-- a, b and the end are the tokens 0 to 2; ^, S and B the rules 0 to 2
abbrev pub example : Grammar
example = record {
  rules = 3;
  tokens = 3;
  productions = production 1 (token 0 ∷ rule 1 ∷ []) ∷ production 1 (rule 2 ∷ []) ∷ production 2 (token 1 ∷ []) ∷ production 2 [] ∷ production 0 (rule 1 ∷ []) ∷ [];
  start = 4;
}

-- a lexeme is its token's number, and stands at it
abbrev pub as_is : ℕ → ℕ
as_is t = t

abbrev pub place : ℕ → Span
place t = record { from = t; to = suc t }

-- `a b`
abbrev pub tree : Tree ℕ
tree = node 0 (before (leaf 0) (before (node 1 (before (node 2 (before (leaf 1) none)) none)) none))

-- the value of a node is its production's number after its children's values
abbrev pub numbers : ℕ → ℕ → Span → List (List ℕ) → List ℕ
numbers p r s [] = p ∷ []
numbers p r s (v ∷ vs) = p ∷ v

abbrev pub one_number : ℕ → List ℕ
one_number x = x ∷ []

-- the rule that a function is told, and the span
abbrev pub rule_and_span : ℕ → ℕ → Span → List ℕ → ℕ
rule_and_span p r s vs = r * 100 + s.from * 10 + s.to

-- `b` as a B of an S
abbrev pub lone_b : Tree ℕ
lone_b = node 1 (before (node 2 (before (leaf 1) none)) none)

-- the lexemes 1 and 5 with an empty B between them
abbrev pub gapped : Tree ℕ
gapped = node 0 (before (leaf 1) (before (node 3 none) (before (leaf 5) none)))

-- the spans of the nodes, each before those of its children
abbrev pub joined : List (List Span) → List Span
joined [] = []
joined (v ∷ vs) = v ++ joined vs

abbrev pub spans : ℕ → ℕ → Span → List (List Span) → List Span
spans p r s vs = s ∷ joined vs

abbrev pub no_spans : ℕ → List Span
no_spans x = []

-- the three rules
abbrev pub each_rule : ℕ → Bool
each_rule zero = true
each_rule (suc zero) = true
each_rule (suc (suc zero)) = true
each_rule (suc (suc (suc A))) = false

abbrev pub first_bits : ℕ → ℕ → Bool
first_bits zero zero = true
first_bits (suc zero) zero = true
first_bits zero (suc zero) = true
first_bits (suc zero) (suc zero) = true
first_bits (suc (suc zero)) (suc zero) = true
first_bits _ _ = false

abbrev pub follow_bits : ℕ → ℕ → Bool
follow_bits zero (suc (suc zero)) = true
follow_bits (suc zero) (suc (suc zero)) = true
follow_bits (suc (suc zero)) (suc (suc zero)) = true
follow_bits _ _ = false

abbrev pub reached : ℕ → Bool
reached (suc zero) = true
reached (suc (suc zero)) = true
reached _ = false

-- each token costs one
abbrev pub one : ℕ → ℕ
one t = 1

abbrev pub least_costs : ℕ → Option ℕ
least_costs zero = Some 0
least_costs (suc zero) = Some 0
least_costs (suc (suc zero)) = Some 0
least_costs (suc (suc (suc A))) = None

abbrev pub greatest_costs : ℕ → Option ℕ
greatest_costs (suc (suc zero)) = Some 1
greatest_costs _ = None

abbrev pub cheapest_lists : ℕ → List (List ℕ)
cheapest_lists zero = [] ∷ []
cheapest_lists (suc zero) = [] ∷ []
cheapest_lists (suc (suc zero)) = [] ∷ []
cheapest_lists (suc (suc (suc A))) = []

-- the rules that are unbounded
abbrev pub open_rules : ℕ → Bool
open_rules zero = true
open_rules (suc zero) = true
open_rules (suc (suc A)) = false

-- the greatest costs, kept below 2, and below 1
abbrev pub costs_to_two : ℕ → Option ℕ
costs_to_two zero = Some 2
costs_to_two (suc zero) = Some 2
costs_to_two (suc (suc zero)) = Some 1
costs_to_two (suc (suc (suc A))) = None

abbrev pub costs_to_one : ℕ → Option ℕ
costs_to_one zero = Some 1
costs_to_one (suc zero) = Some 1
costs_to_one (suc (suc zero)) = Some 1
costs_to_one (suc (suc (suc A))) = None

pub record ExampleIsMet : Type 0 where
  pub well_formed : WellFormed example
  pub sentence : IsSentence example (start_symbol example) (0 ∷ 1 ∷ [])
  pub begins : BeginsSentence example (start_symbol example) (0 ∷ [])
  pub derivation : IsDerivation example as_is (rule 1) (0 ∷ 1 ∷ []) tree
  pub span : span_of place no_span tree ≡ record { from = 0; to = 2 }
  pub value : fold example one_number numbers place no_span tree ≡ 0 ∷ 0 ∷ []
  pub folds : Folds example (by_functions one_number numbers) place no_span tree (0 ∷ 0 ∷ [])
  -- a function is told the rule of the production, and the node's span
  pub told : fold example as_is rule_and_span place no_span lone_b ≡ 112
  -- a node without children has the span of the entry to the left, also between two others
  pub empty_span : span_of place (place 3) (node 3 none) ≡ place 3
  pub middle_span : fold example no_spans spans place no_span gapped ≡ record { from = 1; to = 6 } ∷ record { from = 1; to = 2 } ∷ []
  pub nullable : Nullable example (rule 1 ∷ [])
  pub first_token : IsFirst example (rule 1 ∷ []) 1
  pub first_before : IsFirstBefore example (rule 2 ∷ []) 2 2
  pub follow_token : IsFollow example 2 2
  pub path : HasPath example 1 1
  pub productive : AllProductive example
  pub first_table : IsFirstTable example (λ A. IsTrue (each_rule A)) (λ A t. IsTrue (first_bits A t))
  pub follow_table : IsFollowTable example (λ A. IsTrue (each_rule A)) (λ A t. IsTrue (first_bits A t)) (λ R t. IsTrue (follow_bits R t))
  pub reach_table : IsReachTable example 1 (λ B. IsTrue (reached B))
  pub productive_table : IsProductiveTable example (λ A. IsTrue (each_rule A))
  pub least_table : IsLeastTable example one least_costs
  pub greatest_table : IsGreatestTable example one greatest_costs
  pub cheapest_table : IsCheapestTable example one least_costs cheapest_lists
  pub least_cost : IsLeastCost example one 1 0
  pub greatest_cost : IsGreatestCost example one 2 1
  pub all_cheapest : AreCheapest example one 1 ([] ∷ [])
  pub in_order : IsBefore (0 ∷ 0 ∷ []) (0 ∷ 1 ∷ [])
  pub cycle : Surrounds example one 1 1 1
  pub unbounded : IsUnbounded example one 1
  pub unbounded_rules : AreUnbounded example one open_rules
  pub gains : Gains example one open_rules 1
  pub below_one : IsKeptTable example one 1 (λ A. false) costs_to_one
  pub below_two : IsKeptTable example one 2 open_rules costs_to_two
  pub narrowed : IsNarrowed example one costs_to_one each_rule open_rules
  pub none_cheaper : NoneIsCheaper example one least_costs
  pub tight : IsTight example one least_costs 1 1 0
  pub have_costs : HaveCosts example one least_costs cheapest_lists
  pub closed_lists : IsClosedOver example one least_costs 1 each_rule cheapest_lists
