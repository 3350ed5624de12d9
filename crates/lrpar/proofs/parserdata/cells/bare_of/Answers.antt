use Rattle.std.proofs.Common.{◌≡◌, Some, sym, ap, ◌∙◌}
use Rattle.state_table.specs.CellViews.{state_of}
use Rattle.state_table.specs.TableValues.{goto_at}
use Rattle.lrpar.proofs.parserdata.cells.bare_of.Goals as goal

pub returns-in-Some : goal.returns-in-Some
returns-in-Some g c = λ n zero other head.
    let number = g.S.IndexStorage.number in
    let to : goto_at c.args.state.now.stable.now (number c.args.state.now.stidx.0) (number c.prod_to_rule-ridx.result.0) ≡ Some (number c.in-Some.field-0.0) = sym c.goto.ensures ∙ ap (state_of number) c.in-Some.is in
    (number c.in-Some.field-0.0, ap (goto_at c.args.state.now.stable.now (number c.args.state.now.stidx.0)) (sym (c.prod_to_rule-ridx.ensures ∙ head)) ∙ to)
