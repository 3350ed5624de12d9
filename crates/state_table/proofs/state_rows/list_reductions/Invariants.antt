use Rattle.std.proofs.Common.{◌≡◌, ◌++◌, take}
use Rattle.table_theory.specs.Cells.{pairs_at}
use Rattle.state_table.specs.CellRows.{reductions_on, first_of}
use Rattle.state_table.specs.CellViews.{pairs_of, production_of, reductions_of}
use Rattle.state_table.specs.Meeting.{rows_in}
use Rattle.state_table.proofs.state_rows.list_reductions.Given as goal

abbrev pub invariant-each : goal.invariant-each
invariant-each g l =
    let number = g.S.IndexStorage.number in
    record {
      first : production_of number l.first ≡ first_of (reductions_on (reductions_of number (rows_in l.sets) (take l.i l.reductions)) (number l.tidx.0));
      listed : pairs_of number l.listed.items ≡ pairs_of number l.initial.listed.items ++ pairs_at (number l.stidx.0) (number l.tidx.0) (reductions_on (reductions_of number (rows_in l.sets) (take l.i l.reductions)) (number l.tidx.0));
    }
