use Rattle.std.proofs.Common.{◌≡◌, ◌++◌, map, subst, arith}
use Rattle.std.specs.String.{string_bytes}
use Rattle.state_table.specs.GraphTexts.{edge_text, by_target}
use Rattle.state_table.specs.GraphViews.{edges_seen}
use Rattle.state_table.proofs.GraphTexts.{target_put}
use Rattle.state_table.proofs.graph_texts.push_edges.Goals as goal

pub targets-preserved : goal.targets-preserved
targets-preserved g c =
    let r = c.next_target-target.ensures.range in
    let below = r.1 in
    let test = c.targets-test.true in (
      omega (arith, below, test),
      target_put (edge_text c.args.grm.now) (edges_seen g.S.IndexStorage.number c.args.edges.now) c.targets.from c.next_target-target.result (map string_bytes c.args.lines.now.items) (map string_bytes c.targets.lines.items) (map string_bytes c.push_edges_to.new.lines.items)
          r.0 c.next_target-target.ensures.passed c.targets.invariant.1 c.in_ok-push_edges_to.ensures,
    )

pub returns : goal.returns
returns g c =
    let le = c.targets.invariant.0 in
    let ge = c.targets-test.false in
    let e : c.targets.from ≡ c.args.count = omega (arith, le, ge) in
    subst (λ n. map string_bytes c.targets.lines.items ≡ map string_bytes c.args.lines.now.items ++ map (edge_text c.args.grm.now) (by_target n (edges_seen g.S.IndexStorage.number c.args.edges.now))) e c.targets.invariant.1
