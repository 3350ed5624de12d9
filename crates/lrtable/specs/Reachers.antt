-- What the lists of reached rules are made with.
use Rattle.std.specs.Prelude.{◌≡◌, ℕ, [], length}
use Rattle.lrtable.specs.declared.left_corners.Reacher.{Reacher}
use Rattle.lrtable.specs.Opening.{IsTidy}

-- its sets are of so many rules and tokens, and no rule waits
pub record HasReach (rules tokens : ℕ) (r : Reacher) : Type 0 where
  pub tidy : IsTidy r.opening
  pub tokens_are : r.opening.tokens ≡ tokens
  pub opened : length r.opening.opened ≡ rules
  pub passed : length r.passed.bits ≡ rules
  pub looks : length r.looks.bits ≡ tokens
  pub none_marked : r.marked.items ≡ []
  pub none_waits : r.waiting ≡ []
