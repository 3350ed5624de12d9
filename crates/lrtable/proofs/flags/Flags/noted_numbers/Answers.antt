use Rattle.std.proofs.Common.{ℕ, ◌<◌, List, length, ap, subst}
use Rattle.std.specs.List.{Contains}
use Rattle.lrtable.specs.FlagWalks.{FlagBits}
use Rattle.lrtable.proofs.flags.Flags.noted_numbers.Goals as goal

pub returns-clause-within : goal.returns-clause-within
returns-clause-within c = λ A m. subst (λ n. A < n) (ap (λ (s : FlagBits). length s.bits) c.self.view_is) (c.self.invariant.within A (subst (λ (l : List ℕ). Contains l A) c.numbers.ensures m))
