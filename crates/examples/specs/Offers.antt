-- What is offered at an error.
use Rattle.std.specs.Prelude.{ℕ, List, [], ◌∷◌, map}
use Rattle.std.specs.List.{range_with_len}
use Rattle.lr_theory.specs.Repair.{Edit, insert}

-- to insert any one token of so many, in the order of their numbers
abbrev pub any_token : ℕ → List (List Edit)
any_token count = map (λ t. insert t ∷ []) (range_with_len 0 count)
