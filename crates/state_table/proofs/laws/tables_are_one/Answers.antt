use Rattle.state_table.proofs.OneTable.{same_graphs, same_tables}
use Rattle.state_table.proofs.laws.tables_are_one.Goals as goal

pub returns-clause-graphs : goal.returns-clause-graphs
returns-clause-graphs c = same_graphs

pub returns-clause-tables : goal.returns-clause-tables
returns-clause-tables c = same_tables
