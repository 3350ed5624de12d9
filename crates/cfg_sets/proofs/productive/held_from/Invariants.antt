use Rattle.std.proofs.Common.{ℕ, ◌<◌, ◌≤◌}
use Rattle.std.specs.Prelude.{IsTrue}
use Rattle.cfg_theory.specs.Grammar.{rule, IsNext}
use Rattle.vob.specs.Sets.{is_set}
use Rattle.cfg_sets.proofs.productive.held_from.Given as goal

abbrev pub invariant-symbols : goal.invariant-symbols
invariant-symbols g l = (d A : ℕ) → l.start ≤ d → d < l.index → IsNext l.grm.grammar (g.S.IndexStorage.number l.fn.pidx.0) d (rule A) → IsTrue (is_set l.found.bits A)
