-- How many edits sequences of repairs have.
use Rattle.std.specs.Prelude.{◌≤◌, ℕ, List, length, sum_by}
use Rattle.std.specs.List.{AllByRecursion}
use Rattle.lr_theory.specs.Repair.{Edit, insert, delete, keep}
use Rattle.repair_search.specs.declared.repairs.Repairs.{Repairs}

-- a lexeme that is kept is no edit
abbrev pub weight : Edit → ℕ
weight (insert t) = 1
weight delete = 1
weight keep = 0

abbrev pub edits_in : List Edit → ℕ
edits_in es = sum_by weight es

-- at most eight sequences, each of at most n edits
pub record AreFew (n : ℕ) (sequences : List (List Edit)) : Type 0 where
  pub count : length sequences ≤ 8
  pub each : AllByRecursion (λ es. edits_in es ≤ n) sequences

-- the greatest number of edits of what is offered
abbrev pub most_edits : {S : Type 0} → Repairs S → ℕ
most_edits r = r.edits

-- how many actions were looked up in searches
abbrev pub steps_made : {S : Type 0} → Repairs S → ℕ
steps_made r = r.steps

-- the number of errors with repairs
abbrev pub errors_repaired : {S : Type 0} → Repairs S → ℕ
errors_repaired r = length r.found.items
