use Rattle.std.proofs.Common.{subst}
use Rattle.state_table.specs.Tables.{HasFullRows}
use Rattle.state_table.specs.TableViews.{sparse_of}
use Rattle.state_table.proofs.TableSteps.{full_rows}
use Rattle.state_table.proofs.statetable.StateTable.states_len.Goals as goal

pub returns-clause-rows : goal.returns-clause-rows
returns-clause-rows g c =
    let i = c.self.inside in
    let T = sparse_of g.S.IndexStorage.number i.states i.tokens i.rules i.prods i.start i.actions.items i.gotos.items i.conflicts in
    subst HasFullRows c.self.view_is (full_rows T c.self.invariant.0.actions c.self.invariant.0.gotos)
