-- Examples of listed conflicts.
use Rattle.std.specs.Prelude.{◌≡◌, ℕ, Option, None, Some}
use Rattle.lr_theory.specs.Canonical.{Act, shift, reduce, Contest, Present, Look}
use Rattle.lr_theory.specs.Graph.{Leads}
use Rattle.state_table.specs.Graphs.{graph_of}
use Rattle.conflict_examples.specs.Spines.{Example, IsExample}
use Rattle.conflict_examples.specs.ExampleViews.{FinderValue}

-- after its string, which leads to the state, the token leaves both actions: it shows both, and canonical LR(1) has them
pub record IsExampleIn (v : FinderValue) (s : ℕ) (x : Example) (a b : Act) : Type 0 where
  pub example : IsExample v.grammar.grammar x a b
  pub contest : Contest v.grammar.grammar (Present v.grammar.grammar x.string) (Look v.grammar.grammar x.string) x.token a b
  pub state : Leads (graph_of v.graph) x.string s

-- of the shift of a token in a state against a reduction, or of a pair of reductions, whose token may be another one
abbrev pub IsListedExample : FinderValue → Option ℕ → ℕ → ℕ → ℕ → Example → Type 0
IsListedExample v None p t s x = IsExampleIn v s x shift (reduce p) × (x.token ≡ t)
IsListedExample v (Some q) p t s x = IsExampleIn v s x (reduce p) (reduce q)
