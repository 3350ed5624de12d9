-- What a name keeps: a text, and which part of it the name is.
use Rattle.std.specs.Prelude.{ℕ, ◌+◌, ◌<◌, ◌==◌, Bool, List, slice_range, if◌then◌else◌}
use Rattle.cfg_read.specs.Scanning.{FitsPart}

-- a name as its text, and whether a `?` was read right behind it
pub record NameValue : Type 0 where
  pub text : List ℕ
  pub optional : Bool

-- so many bytes from an offset on, or all, for which 255 stands
abbrev pub part_of : List ℕ → ℕ → ℕ → List ℕ
part_of text start len = if len == 255 then text else slice_range text start (start + len)

abbrev pub IsPartOf : List ℕ → ℕ → ℕ → Type 0
IsPartOf text start len = len < 255 → FitsPart text start (start + len)
