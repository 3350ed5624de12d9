use Rattle.std.proofs.Common.{ℕ, ◌<◌, ◌≤◌, ◌⊎◌, length, map, subst, arith}
use Rattle.std.proofs.lemmas.List.{take_all}
use Rattle.state_table.specs.GraphTexts.{NoneLead}
use Rattle.state_table.specs.GraphViews.{edge_seen}
use Rattle.state_table.proofs.GraphTexts.{none_more}
use Rattle.state_table.proofs.graph_texts.next_target.Goals as goal

pub edges-preserved : goal.edges-preserved
edges-preserved g c =
    let number = g.S.IndexStorage.number in
    let from = c.args.from in
    let inv = c.edges.invariant in
    let le = c.lesser-least.ensures.least in
    let under = inv.1 in
    let here = subst (λ (t : ℕ). (t < from) ⊎ (c.lesser-least.result ≤ t)) c.to_usize.ensures.value c.lesser-least.ensures.passed in
    (c.lesser-least.ensures.range inv.0, omega (arith, le, under), none_more (edge_seen number) c.args.edges.now c.edges.i c.index-edges-i.result from c.edges.least c.lesser-least.result c.edges-test.true c.index-edges-i.is le inv.2 here)

pub returns-clause-passed : goal.returns-clause-passed
returns-clause-passed g c =
    let number = g.S.IndexStorage.number in
    let xs = c.args.edges.now in
    let ge : length xs ≤ c.edges.i = c.edges-test.false in
    subst (λ l. NoneLead (map (edge_seen number) l) c.args.from c.edges.least) (take_all c.edges.i xs ge) c.edges.invariant.2
