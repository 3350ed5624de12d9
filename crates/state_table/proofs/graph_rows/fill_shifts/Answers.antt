use Rattle.std.proofs.Common.{ap}
use Rattle.state_table.specs.CellViews.{targets_of}
use Rattle.state_table.specs.GraphParts.{token_edges}
use Rattle.state_table.specs.GraphViews.{edge_seen}
use Rattle.state_table.proofs.GraphSteps.{tokens_append, one_more}
use Rattle.state_table.proofs.graph_rows.fill_shifts.Goals as goal

pub edges-init : goal.edges-init
edges-init g c = ap (λ l. targets_of g.S.IndexStorage.number l) c.clear.ensures.items

pub edges-preserved : goal.edges-preserved
edges-preserved g c =
    let number = g.S.IndexStorage.number in
    one_more (edge_seen number) token_edges tokens_append c.args.edges.now c.edges.i c.index-edges-i.result (targets_of number c.edges.shifts.items) (targets_of number c.keep_shift.new.shifts.items) c.edges-test.true c.index-edges-i.is c.edges.invariant c.in_ok-keep_shift.ensures
