use Rattle.std.proofs.Common.{ℕ, ◌<◌}
use Rattle.std.specs.Prelude.{IsTrue}
use Rattle.vob.specs.Sets.{is_set}
use Rattle.cfg_sets.proofs.productive.Search.has_all.Given as goal

abbrev pub invariant-rules : goal.invariant-rules
invariant-rules l = (A : ℕ) → A < l.rule → IsTrue (is_set l.self.found.bits A)
