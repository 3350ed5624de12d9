-- Cheapest lists of those rules alone that one rule needs, and how long cheap lists are.
use Rattle.std.specs.Prelude.{◌≡◌, ℕ, ◌<◌, ◌≤◌, List, length, Contains, Bool, IsTrue, Option, Some}
use Rattle.cfg_theory.specs.Grammar.{Grammar, WellFormed, IsOf, body_of}
use Rattle.cfg_theory.specs.Productive.{RulesIn}
use Rattle.cfg_theory.specs.Cost.{cost, Has, IsCheapest, IsLeastCost}
use Rattle.cfg_theory.specs.CostTables.{Sums, Concatenates}

-- no production makes a rule cheaper than the table says
abbrev pub NoneIsCheaper : Grammar → (ℕ → ℕ) → (ℕ → Option ℕ) → Type 0
NoneIsCheaper G f least = (p A n : ℕ) → IsOf G p A → Sums f least (body_of G p) n → (m : ℕ) × (least A ≡ Some m) × (m ≤ n)

-- the production p gives the rule A its cost of the table, n
pub record IsTight (G : Grammar) (f : ℕ → ℕ) (least : ℕ → Option ℕ) (p A n : ℕ) : Type 0 where
  pub is_of : IsOf G p A
  pub has_cost : least A ≡ Some n
  pub sums : Sums f least (body_of G p) n

-- the lists are of rules, and cost what the table says
abbrev pub HaveCosts : Grammar → (ℕ → ℕ) → (ℕ → Option ℕ) → (ℕ → List (List ℕ)) → Type 0
HaveCosts G f least lists = (A : ℕ) (w : List ℕ) → Contains (lists A) w → (n : ℕ) × (least A ≡ Some n) × Has G A w × (cost f w ≡ n)

-- with a wanted rule each rule is wanted that such a production names, and what is put together by it is there, for costs below a bound
pub record IsClosedOver (G : Grammar) (f : ℕ → ℕ) (least : ℕ → Option ℕ) (top : ℕ) (wanted : ℕ → Bool) (lists : ℕ → List (List ℕ)) : Type 0 where
  pub handed_on : (p A n : ℕ) → n < top → IsTrue (wanted A) → IsTight G f least p A n → RulesIn (λ B. IsTrue (wanted B)) (body_of G p)
  pub closed : (p A n : ℕ) (w : List ℕ) → n < top → IsTrue (wanted A) → IsTight G f least p A n → Concatenates lists (body_of G p) w → Contains (lists A) w

pub record ListsOfWantedRules : Type 0 where
  -- what such a production puts together costs as much
  pub parts : (G : Grammar) (f : ℕ → ℕ) (least : ℕ → Option ℕ) (lists : ℕ → List (List ℕ)) (p A n : ℕ) (w : List ℕ) → HaveCosts G f least lists → IsTight G f least p A n →
      Concatenates lists (body_of G p) w → Has G A w × (cost f w ≡ n)
  -- all cheapest lists of a wanted rule are there
  pub all : (G : Grammar) (f : ℕ → ℕ) (least : ℕ → Option ℕ) (top : ℕ) (wanted : ℕ → Bool) (lists : ℕ → List (List ℕ)) → NoneIsCheaper G f least → IsClosedOver G f least top wanted lists →
      (A n : ℕ) (w : List ℕ) → n < top → IsTrue (wanted A) → least A ≡ Some n → IsLeastCost G f A n → IsCheapest G f A w → Contains (lists A) w

-- where each token costs at least one, a token list costs at least its length
pub record ListsAreShort : Type 0 where
  pub short : (G : Grammar) (f : ℕ → ℕ) → WellFormed G → ((t : ℕ) → t < G.tokens → 1 ≤ f t) → (A : ℕ) (w : List ℕ) → Has G A w → length w ≤ cost f w
