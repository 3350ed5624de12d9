-- Orders of productions.
use Rattle.std.specs.Prelude.{ℕ, zero, suc, ◌<◌, false, List, [], ◌∷◌}
use Rattle.std.specs.List.{All, Contains}
use Rattle.cfg_sets.specs.declared.orders.Stop.{Stop}

-- the list has the numbers below n, and no others
pub record IsOrder (n : ℕ) (list : List ℕ) : Type 0 where
  pub within : All (λ p. p < n) list
  pub all : (p : ℕ) → p < n → Contains list p

-- a walk's stops at the rules below n, each before the rules that it names, the last rule first
abbrev pub stops_below : ℕ → List Stop
stops_below zero = []
stops_below (suc n) = record { rule = n; is_behind = false } ∷ stops_below n
