use Rattle.lrtable.proofs.MovedRows.{some_tokens}
use Rattle.lrtable.proofs.moved_items.to_core.Goals as goal

pub row-requires : goal.row-requires
row-requires g c = some_tokens c.args.rows.now c.args.moved.now c.each.i c.index-moved-i-in-each.result c.each-test.true c.requires
