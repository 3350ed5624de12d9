-- What is printed of a refusal.
use Rattle.std.specs.Prelude.{ℕ, List, codes}
use Rattle.vob.specs.declared.error.VobError.{VobError}
use Rattle.vob.specs.declared.error.VobError.TheVariants.{TooLong, Memory}

-- the name of the variant
abbrev pub error_text : VobError → List ℕ
error_text TooLong = codes "TooLong"
error_text (Memory e) = codes "Memory"
