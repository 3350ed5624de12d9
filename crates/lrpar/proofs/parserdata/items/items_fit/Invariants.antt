use Rattle.std.proofs.Common.{◌≡◌}
use Rattle.state_table.specs.Graphs.{GraphValue}
use Rattle.state_table.specs.TableValues.{TableValue}
use Rattle.state_table.specs.Tables.{automaton_of}
use Rattle.lrpar.specs.Safety.{ItemFits}
use Rattle.lrpar.proofs.ItemLists.{ItemsBelow}
use Rattle.lrpar.proofs.parserdata.items.items_fit.Given as goal

abbrev pub invariant-items : goal.invariant-items
invariant-items g l = (x : GraphValue) (v : TableValue) → x.start ≡ g.S.IndexStorage.number l.start.0 → ItemsBelow l.items (ItemFits l.grm.grammar (automaton_of x v) (g.S.IndexStorage.number l.state.0)) l.index
