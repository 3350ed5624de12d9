-- Answers to questions.
use Rattle.std.specs.Prelude.{Bool, true, false}

-- the answer to whether P holds
abbrev pub Decides : Type 0 → Bool → Type 0
Decides P true = P
Decides P false = P → ⊥
