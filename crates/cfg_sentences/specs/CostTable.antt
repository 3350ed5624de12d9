-- A table of least costs as passes fill it: a cost past the bound is kept as the bound.
use Rattle.std.specs.Prelude.{◌≡◌, ℕ, ◌<◌, ◌≤◌, List, [], ◌∷◌, length, Option, Some, None, get_or, min}
use Rattle.std.specs.List.{sum_by}
use Rattle.cfg_theory.specs.Grammar.{Sym, rule, token, Grammar, head_of, body_of}
use Rattle.cfg_theory.specs.Derivation.{IsProductive}
use Rattle.cfg_theory.specs.Cost.{cost, Has}
use Rattle.cfg_theory.specs.CostTables.{Sums}

-- one more than a u16 holds
abbrev pub bound : ℕ
bound = 65536

-- the cost of a token, by a list of costs
abbrev pub cost_of : List ℕ → ℕ → ℕ
cost_of costs t = get_or costs t 0

-- the cost of a rule, by a list of costs of those that have one
abbrev pub cost_in : List (Option ℕ) → ℕ → Option ℕ
cost_in table A = get_or table A None

-- of a symbol
abbrev pub cost_at : List ℕ → List (Option ℕ) → Sym → Option ℕ
cost_at costs table (rule A) = cost_in table A
cost_at costs table (token t) = Some (cost_of costs t)

-- it has an entry in the lists
abbrev pub HasCost : List ℕ → List (Option ℕ) → Sym → Type 0
HasCost costs table (rule A) = A < length table
HasCost costs table (token t) = t < length costs

abbrev pub AllHaveCosts : List ℕ → List (Option ℕ) → List Sym → Type 0
AllHaveCosts costs table [] = Unit {0}
AllHaveCosts costs table (X ∷ a) = HasCost costs table X × AllHaveCosts costs table a

-- no cost is past the bound
abbrev pub AreCapped : List (Option ℕ) → Type 0
AreCapped table = (A n : ℕ) → cost_in table A ≡ Some n → n ≤ bound

-- the costs are sums of those of the symbols, kept at the bound
abbrev pub IsCost : List ℕ → List (Option ℕ) → List Sym → ℕ → Type 0
IsCost costs table a k = (n : ℕ) × Sums (cost_of costs) (cost_in table) a n × (k ≡ min n bound)

abbrev pub HasNoCost : List ℕ → List (Option ℕ) → List Sym → Type 0
HasNoCost costs table a = (n : ℕ) → Sums (cost_of costs) (cost_in table) a n → ⊥

-- each cost below the bound is that of a token list, and a rule with a cost derives some
pub record AreCosts (G : Grammar) (f : ℕ → ℕ) (table : List (Option ℕ)) : Type 0 where
  pub count : length table ≡ G.rules
  pub within : (A n : ℕ) → cost_in table A ≡ Some n → n ≤ bound
  pub lists : (A n : ℕ) → cost_in table A ≡ Some n → n < bound → (w : List ℕ) × Has G A w × (cost f w ≡ n)
  pub productive : (A n : ℕ) → cost_in table A ≡ Some n → IsProductive G A

-- the production p makes its rule no cheaper
abbrev pub IsClosedBy : Grammar → (ℕ → ℕ) → ℕ → List (Option ℕ) → Type 0
IsClosedBy G f p table = (n : ℕ) → Sums f (cost_in table) (body_of G p) n → (m : ℕ) × (cost_in table (head_of G p) ≡ Some m) × (m ≤ n)

-- how far the costs can still fall
abbrev pub weight : Option ℕ → ℕ
weight None = 65537
weight (Some n) = n

abbrev pub fall : List (Option ℕ) → ℕ
fall table = sum_by weight table

-- whether a cost is less than another, where none is more than any
abbrev pub IsLess : Option ℕ → Option ℕ → Type 0
IsLess None o = ⊥
IsLess (Some n) None = Unit {0}
IsLess (Some n) (Some o) = n < o
