use Rattle.std.proofs.Common.{◌≡◌, true, set, arith, subst}
use Rattle.lrtable.specs.StateViews.{edge_of_pair}
use Rattle.lrtable.proofs.OpenLaws.{mapped}
use Rattle.lrtable.proofs.Whole.{flagged_none, flagged_more}
use Rattle.lrtable.proofs.pruning.flag_targets.Goals as goal

pub edges-init : goal.edges-init
edges-init g c = flagged_none c.args.flags.now.items

pub flag-requires : goal.flag-requires
flag-requires g c =
    let number = g.S.IndexStorage.number in
    let x = c.edge-item.result in
    let lt = c.requires (edge_of_pair number x) (mapped (edge_of_pair number) c.args.edges.now c.edges.edge-index x c.edges-test.true c.edge-item.is) in
    let n = c.edges.invariant.size in
    omega (arith, lt, n)

pub edges-preserved : goal.edges-preserved
edges-preserved g c =
    let number = g.S.IndexStorage.number in
    let x = c.edge-item.result in
    let lt = c.requires (edge_of_pair number x) (mapped (edge_of_pair number) c.args.edges.now c.edges.edge-index x c.edges-test.true c.edge-item.is) in
    let n = c.edges.invariant.size in
    flagged_more (edge_of_pair number) c.args.edges.now c.edges.edge-index x c.args.flags.now.items c.edges.flags.items c.flag.new.flags.items
    c.edges-test.true c.edge-item.is (omega (arith, lt, n)) (subst (λ k. c.flag.new.flags.items ≡ set c.edges.flags.items k true) c.to_usize.ensures.value c.flag.ensures) c.edges.invariant
