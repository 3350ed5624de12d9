-- Equal lists, by the test that `==` makes.
use Rattle.std.proofs.Common.{◌≡◌, Bool, true, List, sym, subst}
use Rattle.std.specs.Prelude.{◌↔◌}
use Rattle.std.specs.Cmp.{booleans_Decides}
use Rattle.std.specs.Cmp.Lexicographic.{pointwise, pointwise_decides}
use mathlib.Core.Bool.{beq}

pub told : {r : Bool} {xs ys : List Bool} → r ≡ pointwise beq xs ys → (r ≡ true) ↔ (xs ≡ ys)
told {r} {xs} {ys} e = subst (λ t. (t ≡ true) ↔ (xs ≡ ys)) (sym e) (pointwise_decides booleans_Decides xs ys)
