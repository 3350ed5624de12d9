-- What the arguments ask for.
use Rattle.std.specs.Prelude.{◌≡◌, ℕ, List, [], Option, None, Some, IsSome}
use Rattle.std.specs.Borrow.{Bor}
use Rattle.lrkit_check.specs.declared.fault.Input.{Input}
use Rattle.lrkit_check.specs.declared.fault.Input.TheVariants.{Grammar, Lines, Page}
use Rattle.lrkit_check.specs.declared.words.Shape.TheVariants.{Html}
use Rattle.lrkit_check.specs.declared.words.Words.{Words}

-- a path that was given, or an empty one
abbrev pub lent : Option (Bor (List ℕ)) → List ℕ
lent None = []
lent (Some s) = s.now

abbrev pub path_of : Words → Input → List ℕ
path_of w Grammar = w.grammar.now
path_of w Lines = lent w.lines
path_of w Page = lent w.page

-- a page has a path
abbrev pub HasForm : Words → Type 0
HasForm w = w.shape ≡ Html → IsSome w.page
