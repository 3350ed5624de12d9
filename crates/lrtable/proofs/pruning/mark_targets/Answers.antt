use Rattle.std.proofs.Common.{◌≡◌, arith, subst}
use Rattle.lrtable.specs.Pruning.{Marks}
use Rattle.lrtable.specs.StateViews.{edge_of_pair}
use Rattle.lrtable.proofs.OpenLaws.{mapped}
use Rattle.lrtable.proofs.Marking.{targets_more}
use Rattle.lrtable.proofs.pruning.mark_targets.Goals as goal

pub mark-requires : goal.mark-requires
mark-requires g c =
    let number = g.S.IndexStorage.number in
    let x = c.edge-item.result in
    let lt = c.requires (edge_of_pair number x) (mapped (edge_of_pair number) c.args.edges.now c.edges.edge-index x c.edges-test.true c.edge-item.is) in
    let n = c.edges.invariant.size in
    omega (arith, lt, n)

pub edges-preserved : goal.edges-preserved
edges-preserved g c =
    targets_more (edge_of_pair g.S.IndexStorage.number) c.args.edges.now c.edges.edge-index c.edge-item.result c.args.marked.now.bits c.edges.marked.bits c.mark.new.marked.bits c.args.waiting.now.items c.edges.waiting.items c.mark.new.waiting.items
    c.edges-test.true c.edge-item.is c.edges.invariant (subst (λ n. Marks (λ s. n ≡ s) c.edges.marked.bits c.mark.new.marked.bits c.edges.waiting.items c.mark.new.waiting.items) c.to_usize.ensures.value c.in_ok-mark.ensures)
