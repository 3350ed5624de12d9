use Rattle.std.proofs.Common.{◌≡◌, length, arith}
use Rattle.std.proofs.lemmas.List.{length-map}
use Rattle.cfg_theory.specs.Grammar.{rule}
use Rattle.state_table.specs.GraphViews.{edge_seen, edges_seen}
use Rattle.lrpar.specs.Fitting.{BadRule}
use Rattle.lrpar.proofs.Edging.{clear_more, clear_end, bad_here, same_rule, less_rule}
use Rattle.lrpar.proofs.parserdata.edges.least_rule_into.Goals as goal

pub returns-in-Some : goal.returns-in-Some
returns-in-Some g c =
    let number = g.S.IndexStorage.number in
    bad_here (edges_seen number c.args.edges.now) rule (BadRule (number c.args.start.0) (number c.args.rules.0)) same_rule less_rule c.requires c.edges.index (number c.in-Some.ridx.0) (edge_seen number c.edge_at.result) c.edges.invariant c.edge_at.ensures (rw c.in-Some.is at c.rule_into.ensures)

pub edges-preserved : goal.edges-preserved
edges-preserved g c =
    let number = g.S.IndexStorage.number in
    clear_more (edges_seen number c.args.edges.now) rule (BadRule (number c.args.start.0) (number c.args.rules.0)) c.edges.index (edge_seen number c.edge_at.result) c.edges.invariant c.edge_at.ensures (rw c.in_default.is at c.rule_into.ensures)

pub returns : goal.returns
returns g c =
    let number = g.S.IndexStorage.number in
    let same : length (edges_seen number c.args.edges.now) ≡ length c.args.edges.now = length-map c.args.edges.now (edge_seen number) in
    clear_end (edges_seen number c.args.edges.now) rule (BadRule (number c.args.start.0) (number c.args.rules.0)) c.edges.index c.edges.invariant (omega (arith, same))
