use Rattle.lr_theory.specs.Automaton.{Complete}
use Rattle.cfg_theory.specs.Decides.{Decides}
use Rattle.state_table.specs.Tables.{automaton_of}
use Rattle.lrpar.proofs.BuiltPairs.{complete_tells}
use Rattle.lrpar.proofs.Completed.{tells_both}
use Rattle.lrpar.proofs.parserdata.ParserData.complete.Goals as goal

decided : (g : _) (c : goal.After-is_complete g) → Decides (Complete c.args.self.now.grammar.grammar (automaton_of c.args.self.now.graph c.args.self.now.table)) c.is_complete.result
decided g c = rw (c.machine.ensures.grammar, c.machine.ensures.graph, c.machine.ensures.table) at c.is_complete.ensures

pub returns-clause-value : goal.returns-clause-value
returns-clause-value g c = tells_both _ _ (decided g c)

pub returns-clause-listed : goal.returns-clause-listed
returns-clause-listed g c = λ is bare. complete_tells _ _ _ c.facts.ensures.table.well_formed is _ (decided g c) bare
