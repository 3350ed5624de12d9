-- Which rules are unbounded, that the others have greatest costs, and tables of costs that are kept below a number.
use Rattle.std.specs.Prelude.{◌≡◌, ℕ, ◌<◌, ◌≤◌, Bool, false, IsTrue, List, Option, Some, min}
use Rattle.cfg_theory.specs.Grammar.{rule, Grammar, WellFormed, IsOf, IsNext, body_of}
use Rattle.cfg_theory.specs.Derivation.{IsProductive}
use Rattle.cfg_theory.specs.Cost.{cost, Has, IsGreatestCost, IsUnbounded}
use Rattle.cfg_theory.specs.CostTables.{Sums, Surrounds}

-- no token list of a rule outside of the set costs more than n
abbrev pub IsBoundedBy : Grammar → (ℕ → ℕ) → (ℕ → Bool) → ℕ → Type 0
IsBoundedBy G f open_rules n = (A : ℕ) (w : List ℕ) → open_rules A ≡ false → Has G A w → cost f w ≤ n

-- the rules of the set are unbounded, and the lists of all others cost no more than some number
pub record AreUnbounded (G : Grammar) (f : ℕ → ℕ) (open_rules : ℕ → Bool) : Type 0 where
  pub unbounded : (A : ℕ) → IsTrue (open_rules A) → IsUnbounded G f A
  pub bounded : (n : ℕ) × IsBoundedBy G f open_rules n

-- the rule derives some token list, and a rule of the set with tokens around it that cost something
pub record Gains (G : Grammar) (f : ℕ → ℕ) (open_rules : ℕ → Bool) (A : ℕ) : Type 0 where
  pub productive : IsProductive G A
  pub to : ℕ
  pub cost_is : ℕ
  pub within : IsTrue (open_rules to)
  pub positive : 0 < cost_is
  pub surrounds : Surrounds G f A to cost_is

-- A table of costs of token lists where those of `top` and more are kept as `top`; outside of the set no production passes it.
pub record IsKeptTable (G : Grammar) (f : ℕ → ℕ) (top : ℕ) (open_rules : ℕ → Bool) (table : ℕ → Option ℕ) : Type 0 where
  pub within : (A n : ℕ) → table A ≡ Some n → n ≤ top
  pub lists : (A n : ℕ) → table A ≡ Some n → (w : List ℕ) × Has G A w × (n ≤ cost f w) × (n < top → cost f w ≤ n)
  pub closed : (p A n : ℕ) → IsOf G p A → open_rules A ≡ false → Sums f table (body_of G p) n → (m : ℕ) × (table A ≡ Some m) × (min n top ≤ m)

-- From a set of rules, outside of which costs are bounded, to one with fewer: `costs` is a table kept below 1, so that it says which
-- rules derive a list that costs something. Where two symbols of a production cost something, its rule is kept if the production names
-- a rule of the old set; else if it names one of the new set.
pub record IsNarrowed (G : Grammar) (f : ℕ → ℕ) (costs : ℕ → Option ℕ) (old new : ℕ → Bool) : Type 0 where
  pub several : (p d A B n : ℕ) → IsOf G p A → Sums f costs (body_of G p) n → 2 ≤ n → IsNext G p d (rule B) → IsTrue (old B) → IsTrue (new A)
  pub single : (p d A B n : ℕ) → IsOf G p A → Sums f costs (body_of G p) n → n < 2 → IsNext G p d (rule B) → IsTrue (new B) → IsTrue (new A)

pub record GreatestCostsExist : Type 0 where
  -- a bounded rule that derives a token list has a greatest cost
  pub greatest : (G : Grammar) (f : ℕ → ℕ) (open_rules : ℕ → Bool) → WellFormed G → AreUnbounded G f open_rules →
      (A : ℕ) → open_rules A ≡ false → IsProductive G A → (n : ℕ) × IsGreatestCost G f A n

-- How a program finds the unbounded rules.
pub record UnboundedSets : Type 0 where
  -- the rules of a set are unbounded where each derives one of the set with tokens around it that cost something
  pub unbounded : (G : Grammar) (f : ℕ → ℕ) (open_rules : ℕ → Bool) → ((A : ℕ) → IsTrue (open_rules A) → Gains G f open_rules A) →
      (A : ℕ) → IsTrue (open_rules A) → IsUnbounded G f A
  -- rules that leave a narrowed set are bounded
  pub narrowed : (G : Grammar) (f : ℕ → ℕ) (costs : ℕ → Option ℕ) (old new : ℕ → Bool) (n : ℕ) → IsKeptTable G f 1 (λ _. false) costs →
      IsBoundedBy G f old n → IsNarrowed G f costs old new → (m : ℕ) × IsBoundedBy G f new m
  -- and so is a rule whose productions name no rule of the set, leaving out those that name a rule without a token list
  pub settled : (G : Grammar) (f : ℕ → ℕ) (costs : ℕ → Option ℕ) (old : ℕ → Bool) (n A : ℕ) → IsKeptTable G f 1 (λ _. false) costs →
      IsBoundedBy G f old n → ((p k d B : ℕ) → IsOf G p A → Sums f costs (body_of G p) k → IsNext G p d (rule B) → old B ≡ false) →
      (m : ℕ) × ((w : List ℕ) → Has G A w → cost f w ≤ m)

-- Such a table says of each bounded rule whether it derives some token list, and gives its greatest cost or a list of `top` and more.
pub record KeptTablesAreExact : Type 0 where
  pub exact : (G : Grammar) (f : ℕ → ℕ) (top : ℕ) (open_rules : ℕ → Bool) (table : ℕ → Option ℕ) → AreUnbounded G f open_rules →
      IsKeptTable G f top open_rules table → (A n : ℕ) → open_rules A ≡ false → table A ≡ Some n → n < top → IsGreatestCost G f A n
  pub some : (G : Grammar) (f : ℕ → ℕ) (top : ℕ) (open_rules : ℕ → Bool) (table : ℕ → Option ℕ) → AreUnbounded G f open_rules →
      IsKeptTable G f top open_rules table → (A : ℕ) → open_rules A ≡ false → IsProductive G A → (n : ℕ) × (table A ≡ Some n)
