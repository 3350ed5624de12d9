use Rattle.std.proofs.Common.{arith, ◌≡◌, ◌+◌, ◌-◌, ◌∷◌, [], length, map, reverse, take, ap, ◌∙◌}
use Rattle.parse_trees.specs.NodeLists.{entry_of, shapes_on}
use Rattle.parse_trees.proofs.NodeLists.{rebuild, after_put, rebuild_begins, rebuild_next}
use Rattle.parse_trees.proofs.node_lists.node_of.Goals as goal

pub entries-init : goal.entries-init
entries-init g c = λ s e. rebuild_begins g.S.IndexStorage.number c.args.entries.now _ (length c.args.entries.now - 0) s (omega arith) c.new-made.ensures.items e

pub entries-preserved : goal.entries-preserved
entries-preserved g c = λ s e.
    let number = g.S.IndexStorage.number in
    let m = length c.args.entries.now - 1 - c.entries.number in
    let same : length c.args.entries.now - (c.entries.number + 1) ≡ m = omega arith in
    ap (λ k. rebuild (reverse (map (entry_of number) (take k c.args.entries.now))) (shapes_on number c.make_next.new.made.items)) same ∙
    after_put _ (reverse (map (entry_of number) (take m c.args.entries.now))) (shapes_on number c.entries.made.items) (shapes_on number c.make_next.new.made.items) (s ∷ [])
    (rebuild_next number c.args.entries.now m (length c.args.entries.now - c.entries.number) c.index-entries-count.result (shapes_on number c.entries.made.items) (s ∷ []) (omega arith) (omega arith) c.index-entries-count.is (c.entries.invariant s e)) c.in_ok-make_next.ensures
