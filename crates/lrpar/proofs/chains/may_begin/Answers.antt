use Rattle.std.proofs.Common.{ap}
use Rattle.state_table.specs.CellViews.{action_of}
use Rattle.lrpar.proofs.chains.may_begin.Goals as goal

pub prod_len-requires : goal.prod_len-requires
prod_len-requires g c = c.requires (g.S.IndexStorage.number c.in-Reduce.pidx.0) (ap (action_of g.S.IndexStorage.number) c.in-Reduce.is)
