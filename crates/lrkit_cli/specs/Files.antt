-- What an input has left, where that is known.
use Rattle.std.specs.Prelude.{ℕ, List, [], Option, None, Some}
use Rattle.lrkit_cli.specs.declared.input.InputFile.{InputFile}
use Rattle.lrkit_cli.specs.declared.input.InputFile.TheVariants.{Open, Missing, Absent}

-- of an open file what is known of it, and nothing where there is no file
abbrev pub left_of : {F : Type 0} → (F → Option (List ℕ)) → InputFile F → Option (List ℕ)
left_of remaining (Open f) = remaining f
left_of remaining Missing = None
left_of remaining Absent = Some []
