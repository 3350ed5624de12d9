use Rattle.std.proofs.Common.{refl, ap, arith}
use Rattle.state_table.specs.CellRows.{shift_to}
use Rattle.state_table.specs.CellViews.{cells_of, targets_of}
use Rattle.state_table.specs.Rows.{at_of}
use Rattle.state_table.proofs.Cursors.{at_start}
use Rattle.state_table.proofs.state_rows.shift_row.Goals as goal

pub returns : goal.returns
returns g c =
    let number = g.S.IndexStorage.number in
    let shifts = targets_of number c.args.shifts.now in
    (c.in_ok-put_shifts.ensures (λ t. shift_to (at_of shifts t)) 0 (omega arith) (λ t a b. refl) (record { filled = ap (λ l. cells_of number l) c.in_ok-row.ensures.items; cursor = at_start shifts })).filled
