-- A text, and whether it must have a section.
use Rattle.std.specs.Prelude.{ℕ, Bool, List}

pub record SectionSource : Type 0 where
  pub text : List ℕ
  pub required : Bool
