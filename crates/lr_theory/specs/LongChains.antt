-- Chains of reductions that pass a cap, their order, and the least one.
use Rattle.std.specs.Prelude.{◌≡◌, ℕ, ◌+◌, ◌<◌, ◌⊎◌, ◌↔◌, [], ◌∷◌, Option, Some, None}
use Rattle.cfg_theory.specs.Grammar.{Grammar}
use Rattle.lr_theory.specs.Automaton.{Automaton}
use Rattle.lr_theory.specs.Chains.{Reductions, ChainsWithin}

-- reductions on the token that leave the state, from the state alone, or with its goto on the rule above it
pub record Chain : Type 0 where
  pub state : ℕ
  pub rule : Option ℕ
  pub token : ℕ

-- there are more than cap of them
abbrev pub GoesPast : Grammar → Automaton → ℕ → ℕ → Option ℕ → ℕ → Type 0
GoesPast G a cap p None t = Reductions G a t (cap + 1) (p ∷ [])
GoesPast G a cap p (Some R) t = (q : ℕ) × (a.goto p R ≡ Some q) × Reductions G a t (cap + 1) (q ∷ p ∷ [])

abbrev pub Passes : Grammar → Automaton → ℕ → Chain → Type 0
Passes G a cap c = GoesPast G a cap c.state c.rule c.token

-- by state, then without a rule before rules, which ascend, then by token
abbrev pub RuleBefore : Option ℕ → Option ℕ → Type 0
RuleBefore None None = ⊥
RuleBefore None (Some R) = Unit {0}
RuleBefore (Some Q) None = ⊥
RuleBefore (Some Q) (Some R) = Q < R

abbrev pub ChainBefore : Chain → Chain → Type 0
ChainBefore c d = (c.state < d.state) ⊎ ((c.state ≡ d.state) × (RuleBefore c.rule d.rule ⊎ ((c.rule ≡ d.rule) × (c.token < d.token))))

-- the least that passes
pub record IsLeastChain (G : Grammar) (a : Automaton) (cap : ℕ) (c : Chain) : Type 0 where
  pub passes : Passes G a cap c
  pub least : (d : Chain) → Passes G a cap d → ChainBefore d c → ⊥

pub record LongChainsAreExact : Type 0 where
  -- none passes exactly where all are within the cap
  pub none : (G : Grammar) (a : Automaton) (cap : ℕ) → ((c : Chain) → Passes G a cap c → ⊥) ↔ ChainsWithin G a cap
  -- there is one least at most
  pub one_least : (G : Grammar) (a : Automaton) (cap : ℕ) (c d : Chain) → IsLeastChain G a cap c → IsLeastChain G a cap d → c ≡ d
