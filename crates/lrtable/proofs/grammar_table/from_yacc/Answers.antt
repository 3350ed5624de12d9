use Rattle.std.proofs.lemmas.Result.{IfOk-weaker, IfErr-weaker}
use Rattle.cfg_numbered.specs.Value.{GrammarValue}
use Rattle.state_table.specs.Graphs.{GraphValue}
use Rattle.lrtable.specs.RefusalViews.{refusal_of}
use Rattle.state_table.specs.TableValues.{TableValue}
use Rattle.state_table.specs.Tables.{CountsAgree, IsTableOf}
use Rattle.state_table.proofs.CanonicalTables.{graph_holds, exact, contested, unrefused, refusal_cause}
use Rattle.lrtable.proofs.grammar_table.from_yacc.Goals as goal

counts_of : (v : GrammarValue) (g : GraphValue) (t : TableValue) → IsTableOf v g t → CountsAgree v.grammar g t
counts_of v g t h = h.counts

pub returns-clause-counts : goal.returns-clause-counts
returns-clause-counts g c = IfOk-weaker _ _ _ (λ r h. counts_of c.args.grm.now _ _ h) c.by_pager.ensures.table

pub returns-clause-canonical : goal.returns-clause-canonical
returns-clause-canonical g c = IfOk-weaker _ _ _ (λ r h. graph_holds c.args.grm.now.grammar _ c.start_prod.ensures.well_formed h) c.by_pager.ensures.graph

pub returns-clause-exact : goal.returns-clause-exact
returns-clause-exact g c = IfOk-weaker _ _ _ (λ r h. exact c.args.grm.now _ _ c.start_prod.ensures.well_formed h) c.by_pager.ensures.table

pub returns-clause-contested : goal.returns-clause-contested
returns-clause-contested g c = IfOk-weaker _ _ _ (λ r h. contested c.args.grm.now _ _ c.start_prod.ensures.well_formed h) c.by_pager.ensures.table

pub returns-clause-unrefused : goal.returns-clause-unrefused
returns-clause-unrefused g c = IfOk-weaker _ _ _ (λ r h. unrefused c.args.grm.now _ _ c.start_prod.ensures.well_formed h) c.by_pager.ensures.table

pub returns-clause-crowded : goal.returns-clause-crowded
returns-clause-crowded g c = IfErr-weaker _ _ _ (λ e h. refusal_cause g.S.IndexStorage.MAX c.args.grm.now (refusal_of g.S.IndexStorage.number e) c.start_prod.ensures.well_formed h) c.by_pager.ensures.refused
