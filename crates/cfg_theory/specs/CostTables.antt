-- Costs of rules from tables as a program computes them: the least, the greatest and the unbounded ones, and the cheapest lists.
use Rattle.std.specs.Prelude.{◌≡◌, ℕ, suc, ◌+◌, ◌<◌, ◌≤◌, ◌↔◌, List, [], ◌∷◌, ◌++◌, map, take, drop, Contains, Option, Some, None}
use Rattle.cfg_theory.specs.Grammar.{Sym, rule, token, Grammar, WellFormed, IsOf, IsNext, body_of}
use Rattle.cfg_theory.specs.Derivation.{Derives, DerivesTokens, IsProductive}
use Rattle.cfg_theory.specs.Productive.{RulesIn}
use Rattle.cfg_theory.specs.Cost.{cost, Has, IsCheapest, IsLeastCost, IsGreatestCost, IsUnbounded}

-- n is the sum of the costs of a list's symbols, where a rule costs what the table says
abbrev pub Sums : (ℕ → ℕ) → (ℕ → Option ℕ) → List Sym → ℕ → Type 0
Sums f table [] n = n ≡ 0
Sums f table (rule A ∷ a) n = (m : ℕ) × (k : ℕ) × (table A ≡ Some m) × Sums f table a k × (n ≡ m + k)
Sums f table (token t ∷ a) n = (k : ℕ) × Sums f table a k × (n ≡ f t + k)

-- a table whose costs are those of token lists
abbrev pub HasLists : Grammar → (ℕ → ℕ) → (ℕ → Option ℕ) → Type 0
HasLists G f table = (A n : ℕ) → table A ≡ Some n → (w : List ℕ) × Has G A w × (cost f w ≡ n)

-- and no production makes a rule cheaper
pub record IsLeastTable (G : Grammar) (f : ℕ → ℕ) (least : ℕ → Option ℕ) : Type 0 where
  pub lists : HasLists G f least
  pub closed : (p A n : ℕ) → IsOf G p A → Sums f least (body_of G p) n → (m : ℕ) × (least A ≡ Some m) × (m ≤ n)

-- or a rule of the table dearer, where each rule that the production names derives some token list
pub record IsGreatestTable (G : Grammar) (f : ℕ → ℕ) (greatest : ℕ → Option ℕ) : Type 0 where
  pub lists : HasLists G f greatest
  pub closed : (p A m : ℕ) → greatest A ≡ Some m → IsOf G p A → RulesIn (IsProductive G) (body_of G p) →
      (n : ℕ) × Sums f greatest (body_of G p) n × (n ≤ m)

-- A derives B with tokens around it, which cost n
pub record Surrounds (G : Grammar) (f : ℕ → ℕ) (A B n : ℕ) : Type 0 where
  pub left : List ℕ
  pub right : List ℕ
  pub derives : Derives G (rule A ∷ []) (map token left ++ (rule B ∷ map token right))
  pub costs : cost f left + cost f right ≡ n

-- w is put together of one of the table's lists for each rule, and of the tokens
abbrev pub Concatenates : (ℕ → List (List ℕ)) → List Sym → List ℕ → Type 0
Concatenates lists [] w = w ≡ []
Concatenates lists (rule A ∷ a) w = (u : List ℕ) × (v : List ℕ) × Contains (lists A) u × Concatenates lists a v × (w ≡ u ++ v)
Concatenates lists (token t ∷ a) w = (v : List ℕ) × Concatenates lists a v × (w ≡ t ∷ v)

-- the lists are cheapest ones, and what is put together by a production that gives the least cost is there
pub record IsCheapestTable (G : Grammar) (f : ℕ → ℕ) (least : ℕ → Option ℕ) (lists : ℕ → List (List ℕ)) : Type 0 where
  pub cheapest : (A : ℕ) (w : List ℕ) → Contains (lists A) w → IsCheapest G f A w
  pub closed : (p A n : ℕ) (w : List ℕ) → IsOf G p A → least A ≡ Some n → Sums f least (body_of G p) n →
      Concatenates lists (body_of G p) w → Contains (lists A) w

-- Such tables are exact.
pub record CostTablesAreExact : Type 0 where
  -- the least costs, and which rules have none
  pub least : (G : Grammar) (f : ℕ → ℕ) (table : ℕ → Option ℕ) → IsLeastTable G f table → (A n : ℕ) → (table A ≡ Some n) ↔ IsLeastCost G f A n
  pub no_list : (G : Grammar) (f : ℕ → ℕ) (table : ℕ → Option ℕ) → IsLeastTable G f table → (A : ℕ) → (table A ≡ None) ↔ (IsProductive G A → ⊥)
  -- the greatest costs that are there
  pub greatest : (G : Grammar) (f : ℕ → ℕ) (table : ℕ → Option ℕ) → IsGreatestTable G f table → (A n : ℕ) → table A ≡ Some n → IsGreatestCost G f A n
  -- all cheapest lists
  pub cheapest : (G : Grammar) (f : ℕ → ℕ) (table : ℕ → Option ℕ) (lists : ℕ → List (List ℕ)) → IsLeastTable G f table → IsCheapestTable G f table lists →
      (A : ℕ) (w : List ℕ) → Contains (lists A) w ↔ IsCheapest G f A w

-- Where a rule is unbounded.
pub record UnboundedByCycles : Type 0 where
  -- a productive rule that derives itself with tokens around it that cost something
  pub cycle : (G : Grammar) (f : ℕ → ℕ) (A n : ℕ) → 0 < n → Surrounds G f A A n → IsProductive G A → IsUnbounded G f A
  -- a rule that derives an unbounded one with tokens around it
  pub handed_on : (G : Grammar) (f : ℕ → ℕ) (A B n : ℕ) → Surrounds G f A B n → IsUnbounded G f B → IsUnbounded G f A
  -- by one production, whose other symbols derive tokens
  pub by_production : (G : Grammar) (f : ℕ → ℕ) (p d A B : ℕ) (u v : List ℕ) → IsOf G p A → IsNext G p d (rule B) →
      DerivesTokens G (take d (body_of G p)) u → DerivesTokens G (drop (suc d) (body_of G p)) v → Surrounds G f A B (cost f u + cost f v)
  -- one such derivation after another
  pub chain : (G : Grammar) (f : ℕ → ℕ) (A B C m n : ℕ) → Surrounds G f A B m → Surrounds G f B C n → Surrounds G f A C (m + n)

-- a rule that derives a token list has a least cost
pub record LeastCostsExist : Type 0 where
  pub least : (G : Grammar) (f : ℕ → ℕ) (A : ℕ) → WellFormed G → IsProductive G A → (n : ℕ) × IsLeastCost G f A n
