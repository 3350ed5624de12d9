use Rattle.cfg_sets.proofs.TokenRows.{empty_are_rows}
use Rattle.cfg_sets.proofs.sets.TokenSets.empty.Goals as goal

pub invariant_of-result : goal.invariant_of-result
invariant_of-result c = empty_are_rows c.rows.counter c.args.width _ c.rows.invariant
