use Rattle.std.proofs.Common.{◌<◌, ℕ}
use Rattle.state_table.specs.Tables.{automaton_of}
use Rattle.lrpar.specs.Safety.{ItemsFit, TokenFits, RuleFits}
use Rattle.lrpar.proofs.parserdata.safety.first_misfit.Given as goal

abbrev pub invariant-states : goal.invariant-states
invariant-states g l = (s : ℕ) → s < l.number → ItemsFit l.grm.grammar (automaton_of l.sgraph l.stable) s × ((t : ℕ) → TokenFits l.grm.grammar (automaton_of l.sgraph l.stable) s t) × ((A : ℕ) → RuleFits l.grm.grammar (automaton_of l.sgraph l.stable) s A)
