-- Values that actions give.
use Rattle.std.specs.Prelude.{◌≡◌, ℕ, List, map, Option, None, Some, option_map, Vec}
use Rattle.std.specs.declared.alloc.Global.{Global}
use Rattle.cfg_theory.specs.Grammar.{Grammar}
use Rattle.cfg_theory.specs.Tree.{Tree}
use Rattle.cfg_theory.specs.Fold.{Span, Answers}
use Rattle.cfg_base.specs.declared.symbol.RIdx.{RIdx}
use Rattle.lrpar.specs.Parses.{HasValue}
use Rattle.parse_trees.specs.declared.node.Node.{Node}
use Rattle.parse_trees.specs.declared.node.Node.TheVariants as nodes
use Rattle.lrpar.specs.declared.parse_actions.AStackType.{AStackType}
use Rattle.lrpar.specs.declared.parse_actions.AStackType.TheVariants as args

-- an argument is a lexeme, or what was answered at a node: at its production, its rule, its span and its own arguments
abbrev pub acted_by : {L U : Type 0} → (ℕ → ℕ → Span → List (AStackType L U) → U → Type 0) → Answers L (AStackType L U)
acted_by {U = U} answers = record { term = λ x v. v ≡ args.Lexeme x; says = λ p r span vs v. (u : U) × (v ≡ args.ActionType u) × answers p r span vs u }

-- no value where there is no tree, and else what was answered at its root
abbrev pub HasAction : {L U : Type 0} → Grammar → (ℕ → ℕ → Span → List (AStackType L U) → U → Type 0) → (L → Span) → Option U → Option (Tree L) → Type 0
HasAction G answers at value tree = HasValue G (acted_by answers) at (option_map args.ActionType value) tree

-- what was answered, where that is what there is
abbrev pub action_in : {L U : Type 0} → Option (AStackType L U) → Option U
action_in None = None
action_in (Some (args.ActionType u)) = Some u
action_in (Some (args.Lexeme x)) = None

-- the node of an argument
abbrev pub node_in : {S L : Type 0} → AStackType L (Node L S) → Node L S
node_in (args.ActionType n) = n
node_in (args.Lexeme x) = nodes.Term x

-- a node of a rule, over those of the arguments
pub record IsNodeOver {S L : Type 0} (number : S → ℕ) (r : ℕ) (vs : List (AStackType L (Node L S))) (n : Node L S) : Type 0 where
  pub rule : RIdx S
  pub below : Vec (Node L S) Global
  pub rule_is : number rule.0 ≡ r
  pub below_are : below.items ≡ map node_in vs
  pub is : n ≡ nodes.Nonterm rule below
