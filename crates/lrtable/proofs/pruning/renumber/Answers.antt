use Rattle.std.proofs.Common.{◌≡◌, ◌<◌, ◌≤◌, List, length, get_or, set, sym, ap, ◌∙◌, subst, arith, rules}
use Rattle.std.proofs.lemmas.List.{length-map, map-set}
use Rattle.std.proofs.lemmas.List.Edits.{map_over_more}
use Rattle.lrtable.specs.Pruning.{renumbered}
use Rattle.lrtable.specs.States.{Edge}
use Rattle.lrtable.specs.StateViews.{edge_of_pair, edges_of}
use Rattle.state_table.proofs.CoreSteps.{map_at}
use Rattle.lrtable.proofs.Renumbering.{not_yet, same_length, all_changed}
use Rattle.lrtable.proofs.pruning.renumber.Goals as goal

pub renumbered_edge-requires-clause-target : goal.renumbered_edge-requires-clause-target
renumbered_edge-requires-clause-target g c =
    let f = edge_of_pair g.S.IndexStorage.number in
    let xs = c.each.edges.items in
    let first = edges_of g.S.IndexStorage.number c.args.edges.now.items in
    let to = renumbered c.args.numbers.now in
    let x = c.index-edge.result.now in
    let n = same_length to first c.each.i in
    let e = ap length c.each.invariant in
    let m = length-map xs f in
    let lt : c.each.i < length xs = search rules in
    let low : c.each.i < length first = omega (arith, n, e, m, lt) in
    let at = map_at f xs c.each.i x (f x) lt c.index-edge.ensures in
    c.requires.targets (f x) (c.each.i, low, sym (not_yet to first (edges_of g.S.IndexStorage.number xs) c.each.i (f x) low c.each.invariant) ∙ at)

pub each-preserved : goal.each-preserved
each-preserved g c =
    let f = edge_of_pair g.S.IndexStorage.number in
    let xs = c.each.edges.items in
    let now = edges_of g.S.IndexStorage.number xs in
    let first = edges_of g.S.IndexStorage.number c.args.edges.now.items in
    let to = renumbered c.args.numbers.now in
    let x = c.index-edge.result.now in
    let n = same_length to first c.each.i in
    let e = ap length c.each.invariant in
    let m = length-map xs f in
    let lt : c.each.i < length xs = search rules in
    let low : c.each.i < length first = omega (arith, n, e, m, lt) in
    let at = map_at f xs c.each.i x (f x) lt c.index-edge.ensures in
    map-set f xs c.each.i c.renumbered_edge.result ∙ ap (λ (y : Edge). set now c.each.i y) c.renumbered_edge.ensures ∙ map_over_more to first now c.each.i (f x) low c.each.invariant (sym at)

pub returns : goal.returns
returns g c =
    let f = edge_of_pair g.S.IndexStorage.number in
    let first = edges_of g.S.IndexStorage.number c.args.edges.now.items in
    let to = renumbered c.args.numbers.now in
    let n = same_length to first c.each.i in
    let e = ap length c.each.invariant in
    let m = length-map c.each.edges.items f in
    let le : length c.each.edges.items ≤ c.each.i = search rules in
    c.each.invariant ∙ all_changed to first c.each.i (omega (arith, n, e, m, le))
