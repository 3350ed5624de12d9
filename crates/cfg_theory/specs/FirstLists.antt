-- The first of the cheapest lists of each rule that one rule needs, where each token costs something.
use Rattle.std.specs.Prelude.{◌≡◌, ℕ, ◌<◌, ◌≤◌, ◌⊎◌, List, Contains, Bool, IsTrue, Option, Some}
use Rattle.cfg_theory.specs.Grammar.{Grammar, WellFormed, body_of}
use Rattle.cfg_theory.specs.Productive.{RulesIn}
use Rattle.cfg_theory.specs.Cost.{Has, IsCheapest, IsLeastCost, IsBefore}
use Rattle.cfg_theory.specs.CostTables.{Concatenates}
use Rattle.cfg_theory.specs.CheapestLists.{NoneIsCheaper, IsTight, HaveCosts}

-- the list w or one before it is among the lists
abbrev pub HasUpTo : List (List ℕ) → List ℕ → Type 0
HasUpTo lists w = (v : List ℕ) × Contains lists v × ((w ≡ v) ⊎ IsBefore v w)

-- as `IsClosedOver` says it, but where a list before it is there, what is put together may be left off
pub record IsClosedUpTo (G : Grammar) (f : ℕ → ℕ) (least : ℕ → Option ℕ) (top : ℕ) (wanted : ℕ → Bool) (lists : ℕ → List (List ℕ)) : Type 0 where
  pub handed_on : (p A n : ℕ) → n < top → IsTrue (wanted A) → IsTight G f least p A n → RulesIn (λ B. IsTrue (wanted B)) (body_of G p)
  pub closed : (p A n : ℕ) (w : List ℕ) → n < top → IsTrue (wanted A) → IsTight G f least p A n → Concatenates lists (body_of G p) w → HasUpTo (lists A) w

pub record FirstsOfWantedRules : Type 0 where
  -- no cheapest list of a wanted rule is before all that are there
  pub up_to : (G : Grammar) (f : ℕ → ℕ) (least : ℕ → Option ℕ) (top : ℕ) (wanted : ℕ → Bool) (lists : ℕ → List (List ℕ)) → WellFormed G → ((t : ℕ) → t < G.tokens → 1 ≤ f t) →
      NoneIsCheaper G f least → HaveCosts G f least lists → IsClosedUpTo G f least top wanted lists →
      (A n : ℕ) (w : List ℕ) → n < top → IsTrue (wanted A) → least A ≡ Some n → IsLeastCost G f A n → IsCheapest G f A w → HasUpTo (lists A) w
  -- a rule's lists are of the grammar's tokens
  pub in_range : (G : Grammar) → WellFormed G → (A : ℕ) (w : List ℕ) → Has G A w → (t : ℕ) → Contains w t → t < G.tokens
