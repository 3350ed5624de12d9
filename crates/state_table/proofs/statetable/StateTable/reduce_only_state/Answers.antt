use Rattle.state_table.specs.CellViews.{cells_of}
use Rattle.state_table.proofs.ReducingRows.{only_reduces, reduces_only}
use Rattle.state_table.proofs.statetable.StateTable.reduce_only_state.Goals as goal

pub returns : goal.returns
returns g c =
    let number = g.S.IndexStorage.number in
    let row = cells_of number c.row.result.now in
    let e = c.row.ensures in
    let s = number c.args.stidx.0 in (
      λ h. (let q = c.reduces_only.ensures.0 h in (q.0, only_reduces c.args.self.now s row e.whole e.cells q.0 q.1)),
      λ q. c.reduces_only.ensures.1 (q.0, reduces_only c.args.self.now s row e.whole e.cells q.0 q.1),
    )
