-- How large an outline is.
use Rattle.std.specs.Prelude.{ℕ, ◌<◌, ◌≤◌, List, length, All}
use Rattle.language_server.specs.declared.answers.Answer.{Answer}
use Rattle.language_server.specs.declared.answers.Answer.TheVariants as answers
use Rattle.language_server.specs.declared.answers.Nested.{Nested}

abbrev pub most_symbols : ℕ
most_symbols = 4096

abbrev pub most_depth : ℕ
most_depth = 16

-- as many symbols as an outline may have, none of them too deep
pub record IsBounded (symbols : List Nested) : Type 0 where
  pub count : length symbols ≤ most_symbols
  pub depths : All (λ (s : Nested). s.depth < most_depth) symbols

-- an outline that is bounded, and no other answer
abbrev pub IsOutline : Answer → Type 0
IsOutline (answers.Outline o) = IsBounded o.symbols.items
IsOutline answer = ⊥
