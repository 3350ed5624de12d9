use Rattle.lrpar.proofs.full_table.FullTable.new.Goals as goal

pub invariant_of-result : goal.invariant_of-result
invariant_of-result g c = (c.in_ok-cells.ensures, c.in_ok-targets.ensures)
