use Rattle.state_table.proofs.RefusalLaws.{refused_has_no_table, one_refusal}
use Rattle.state_table.proofs.laws.refusals_are_exact.Goals as goal

pub returns-clause-tables : goal.returns-clause-tables
returns-clause-tables c = refused_has_no_table

pub returns-clause-refusals : goal.returns-clause-refusals
returns-clause-refusals c = one_refusal
