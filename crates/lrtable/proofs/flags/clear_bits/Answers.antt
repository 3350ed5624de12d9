use Rattle.std.proofs.Common.{ℕ, List, subst}
use Rattle.std.specs.List.{Contains}
use Rattle.lrtable.proofs.flags.clear_bits.Goals as goal

pub clear_each-requires-clause-within : goal.clear_each-requires-clause-within
clear_each-requires-clause-within c = λ A m. c.requires.within A (subst (λ (l : List ℕ). Contains l A) c.numbers.ensures m)
