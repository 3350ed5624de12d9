use Rattle.std.proofs.Common.{ap}
use Rattle.state_table.specs.ItemRows.{map_of}
use Rattle.state_table.specs.Sharing.{shared_map}
use Rattle.state_table.proofs.Fitting.{none_fits}
use Rattle.state_table.proofs.itemset.Itemset.new.Goals as goal

pub returns-clause-fits : goal.returns-clause-fits
returns-clause-fits g c = λ G. none_fits G (shared_map g.S.IndexStorage.number c.empty.result) (ap map_of c.empty.ensures.core)
