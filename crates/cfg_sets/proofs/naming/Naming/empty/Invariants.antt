use Rattle.std.proofs.Common.{◌≡◌, [], replicate}
use Rattle.std.specs.Prelude.{map}
use Rattle.cfg_sets.proofs.naming.Naming.empty.Given as goal

abbrev pub invariant-rules : goal.invariant-rules
invariant-rules l = map (λ x. x.items) l.lists.items ≡ replicate l.counter []
