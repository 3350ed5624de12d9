use Rattle.std.proofs.Common.{◌≤◌, ◌∙◌, ℕ, length, sym, ap, arith}
use Rattle.std.specs.Prelude.{slice_get}
use Rattle.std.proofs.lemmas.List.{length-map}
use Rattle.state_table.specs.CellViews.{targets_of}
use Rattle.state_table.specs.declared.stidx.StIdx.{StIdx}
use Rattle.state_table.specs.GraphViews.{edges_seen}
use Rattle.lrpar.proofs.FittingRows.{edges_more, are_edges}
use Rattle.lrpar.proofs.parserdata.cells.are_edges.Goals as goal

pub gotos-preserved : goal.gotos-preserved
gotos-preserved g c =
    let number = g.S.IndexStorage.number in
    edges_more (edges_seen number c.args.edges.now) (targets_of number c.args.row.now) c.gotos.index c.goto_of_row-number.result.0 (number c.goto_of_row-number.result.1.0) c.gotos.invariant c.goto_of_row-number.ensures (c.is_edge.ensures c.if-not-is_edge.false)

pub returns : goal.returns
returns g c = λ yes.
    let number = g.S.IndexStorage.number in
    let f : ℕ × StIdx g.row.S.Denot → ℕ × ℕ = λ e. (e.0, number e.1.0) in
    let n = length-map c.args.row.now f in
    let all : length (targets_of number c.args.row.now) ≤ c.gotos.index = omega (arith, n) in
    are_edges (edges_seen number c.args.edges.now) (targets_of number c.args.row.now) (number c.args.rules.0) c.gotos.index c.gotos.invariant all (λ A q at. c.ends_at.ensures yes A q (ap (slice_get (edges_seen number c.args.edges.now)) (sym n) ∙ at))
