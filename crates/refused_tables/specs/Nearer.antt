-- An example from a nearer rule on.
use Rattle.std.specs.Prelude.{◌≡◌, ℕ, take, drop}
use Rattle.conflict_examples.specs.declared.examples.ConflictExample.{ConflictExample}

-- the open productions from one on, where those before it are the same for both actions; the ways to the token and the token stay
pub record IsEndOf (x y : ConflictExample ℕ) : Type 0 where
  pub count : ℕ
  pub shared : take count x.first.spine.items ≡ take count x.second.spine.items
  pub first : y.first.spine.items ≡ drop count x.first.spine.items
  pub second : y.second.spine.items ≡ drop count x.second.spine.items
  pub first_steps : y.first.steps.items ≡ x.first.steps.items
  pub second_steps : y.second.steps.items ≡ x.second.steps.items
  pub token : y.token ≡ x.token
