use Rattle.std.proofs.Common.{◌≡◌, ◌<◌, [], length, get_or, Some, sym, ap, ◌∙◌, arith}
use Rattle.std.specs.Prelude.{slice_get}
use Rattle.std.proofs.lemmas.List.{length-map}
use Rattle.cfg_numbered.specs.Symbols.{sym_of}
use Rattle.state_table.specs.GraphViews.{edge_seen, edges_seen}
use Rattle.lrpar.specs.Fitting.{closed_at}
use Rattle.lrpar.proofs.CarriedItems.{flagged_none, flagged_skip, flagged_more, flagged_all, target_within}
use Rattle.lrpar.proofs.parserdata.carrying.flag_from.Goals as goal
use Rattle.lrpar.proofs.parserdata.carrying.flag_from.Goals.{After-edge_at}

-- the edge as the graph has it
here : (g : _) (c : After-edge_at g) → slice_get (get_or c.args.sgraph.now.edges (g.S.IndexStorage.number c.args.state.0) []) c.edges.index ≡ Some (edge_seen g.S.IndexStorage.number c.edge_at.result)
here g c = rw (← c.edges-edges.ensures) c.edge_at.ensures

within : (g : _) (c : After-edge_at g) → g.S.IndexStorage.number c.edge_at.result.1.0 < length c.args.sgraph.now.cores
within g c = target_within (length c.args.sgraph.now.cores) (get_or c.args.sgraph.now.edges (g.S.IndexStorage.number c.args.state.0) []) c.edges.index (edge_seen g.S.IndexStorage.number c.edge_at.result) (c.requires.graph.targets (g.S.IndexStorage.number c.args.state.0)) (here g c)

pub edges-init : goal.edges-init
edges-init g c = flagged_none _ _ _ _ c.requires.flags

pub past_of-requires-clause-state : goal.past_of-requires-clause-state
past_of-requires-clause-state g c = within g (goal.at.past_of-requires-clause-state g c).After-edge_at

pub flag-requires : goal.flag-requires
flag-requires g c = let lt = within g (goal.at.flag-requires g c).After-edge_at in omega (arith, lt, c.edges.invariant.before.count)

pub edges-preserved-then-is_flagged : goal.edges-preserved-then-is_flagged
edges-preserved-then-is_flagged g c =
    let number = g.S.IndexStorage.number in
    flagged_skip c.args.grm.now.grammar c.args.sgraph.now (number c.args.state.0) c.edges.index (number c.edge_at.result.1.0) (sym_of number c.edge_at.result.0) c.edges.flags.items c.edges.invariant (here g (goal.at.edges-preserved-then-is_flagged g c).After-edge_at) (λ e. cc (sym e ∙ c.is_flagged.ensures ∙ ap Some c.if-is_flagged.true))

pub edges-preserved-then-carries : goal.edges-preserved-then-carries
edges-preserved-then-carries g c =
    let number = g.S.IndexStorage.number in
    let carried = rw c.if-carries.true at (c.carries.ensures (closed_at c.args.sgraph.now (number c.edge_at.result.1.0)) c.past_of.ensures) in
    flagged_skip c.args.grm.now.grammar c.args.sgraph.now (number c.args.state.0) c.edges.index (number c.edge_at.result.1.0) (sym_of number c.edge_at.result.0) c.edges.flags.items c.edges.invariant (here g (goal.at.edges-preserved-then-carries g c).After-edge_at) (λ _. rw c.closed_state-from.ensures at carried)

pub edges-preserved : goal.edges-preserved
edges-preserved g c =
    let number = g.S.IndexStorage.number in
    let fails = rw c.if-carries.false at (c.carries.ensures (closed_at c.args.sgraph.now (number c.edge_at.result.1.0)) c.past_of.ensures) in
    rw c.flag.ensures (flagged_more c.args.grm.now.grammar c.args.sgraph.now (number c.args.state.0) c.edges.index (number c.edge_at.result.1.0) (sym_of number c.edge_at.result.0) c.edges.flags.items (c.requires.graph.ascend (number c.args.state.0)) c.edges.invariant (here g (goal.at.edges-preserved g c).After-edge_at) (rw c.closed_state-from.ensures at fails))

pub returns : goal.returns
returns g c =
    let number = g.S.IndexStorage.number in
    let same : length (edges_seen number c.edges-edges.result.now) ≡ length c.edges-edges.result.now = length-map c.edges-edges.result.now (edge_seen number) in
    let count : length (edges_seen number c.edges-edges.result.now) ≡ length (get_or c.args.sgraph.now.edges (number c.args.state.0) []) = ap length c.edges-edges.ensures in
    flagged_all c.args.grm.now.grammar c.args.sgraph.now (number c.args.state.0) c.edges.index c.edges.flags.items c.edges.invariant (omega (arith, same, count))
