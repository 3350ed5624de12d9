-- Refusals of growth.
use Rattle.std.proofs.Common.{◌≡◌, inl, inr, refl}
use Rattle.std.specs.Prelude.{Result, Ok, Err, IfErr}
use Rattle.vob.specs.declared.error.VobError.{VobError}
use Rattle.vob.specs.declared.error.VobError.TheVariants.{TooLong, Memory}
use Rattle.vob.specs.Refusal.{IsGrowthRefusal}

pub any_refusal : (e : VobError) → IsGrowthRefusal e
any_refusal TooLong = inl refl
any_refusal (Memory a) = inr refl

pub all_refusals : {A : Type 0} (r : Result A VobError) → IfErr r IsGrowthRefusal
all_refusals (Ok x) = tt
all_refusals (Err e) = any_refusal e

-- one refusal is no other, whatever the call would have given
pub same_fault : {A : Type 0} (e f : VobError) → ◌≡◌ {A = Result A VobError} (Err e) (Err f) → e ≡ f
same_fault e f h = cc

pub same_refusal : {A : Type 0} (e f : VobError) → e ≡ f → ◌≡◌ {A = Result A VobError} (Err e) (Err f)
same_refusal e f h = cc
