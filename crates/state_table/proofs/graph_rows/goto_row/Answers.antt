use Rattle.std.proofs.Common.{ap}
use Rattle.state_table.specs.CellViews.{targets_of}
use Rattle.state_table.specs.GraphParts.{rule_edges}
use Rattle.state_table.specs.GraphViews.{edge_seen}
use Rattle.state_table.proofs.GraphSteps.{rules_append, one_more}
use Rattle.state_table.proofs.graph_rows.goto_row.Goals as goal

pub edges-init : goal.edges-init
edges-init g c = ap (λ l. targets_of g.S.IndexStorage.number l) c.in_ok-gotos.ensures.items

pub edges-preserved : goal.edges-preserved
edges-preserved g c =
    let number = g.S.IndexStorage.number in
    one_more (edge_seen number) rule_edges rules_append c.args.edges.now c.edges.i c.index-edges-i.result (targets_of number c.edges.gotos.items) (targets_of number c.keep_goto.new.gotos.items) c.edges-test.true c.index-edges-i.is c.edges.invariant c.in_ok-keep_goto.ensures
