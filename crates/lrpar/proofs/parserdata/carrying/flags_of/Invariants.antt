use Rattle.lrpar.specs.Fitting.{AreFlags}
use Rattle.lrpar.proofs.parserdata.carrying.flags_of.Given as goal

abbrev pub invariant-states : goal.invariant-states
invariant-states g l = AreFlags l.grm.grammar l.sgraph l.number l.flags.items
