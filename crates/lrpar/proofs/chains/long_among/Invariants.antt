use Rattle.std.proofs.Common.{◌<◌}
use Rattle.lr_theory.specs.LongChains.{Chain, Passes}
use Rattle.state_table.specs.Tables.{automaton_of}
use Rattle.state_table.specs.Graphs.{GraphValue}
use Rattle.lrpar.specs.Endings.{AreEndings}
use Rattle.lrpar.proofs.chains.long_among.Given as goal

abbrev pub invariant-states : goal.invariant-states
invariant-states g l = record {
  endings : AreEndings g.S.IndexStorage.number l.chains.grm.now.grammar l.chains.stable.now l.search.endings.items;
  before : (x : GraphValue) (d : Chain) → d.state < l.number → Passes l.chains.grm.now.grammar (automaton_of x l.chains.stable.now) l.chains.limit d → ⊥;
}
