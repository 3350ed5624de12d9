-- Why a growth is refused.
use Rattle.std.specs.Prelude.{◌≡◌, ◌⊎◌, alloc_error}
use Rattle.vob.specs.declared.error.VobError.{VobError}
use Rattle.vob.specs.declared.error.VobError.TheVariants.{TooLong, Memory}

-- the length would be past the greatest number, or there is no memory; there is no third cause
abbrev pub IsGrowthRefusal : VobError → Type 0
IsGrowthRefusal e = (e ≡ TooLong) ⊎ (e ≡ Memory alloc_error)
