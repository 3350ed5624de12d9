-- Where a fault is.
use Rattle.std.specs.Prelude.{◌≤◌, ℕ, ⊤}
use Rattle.yacc_import.specs.declared.errors.ImportError.{ImportError}
use Rattle.yacc_import.specs.declared.errors.ImportError.TheVariants.{Refused, Memory}

-- a fault is at a byte of a source of so many, or at its end
abbrev pub LiesWithin : ℕ → ImportError → Type 0
LiesWithin len (Refused fault at) = at ≤ len
LiesWithin len (Memory e) = ⊤
