use Rattle.state_table.proofs.RowsAt.{searched}
use Rattle.state_table.proofs.rows.search_with.Goals as goal

pub returns : goal.returns
returns g c = searched c.args.row.now c.args.number c.row_search.result c.requires.rises c.row_search.ensures.found
