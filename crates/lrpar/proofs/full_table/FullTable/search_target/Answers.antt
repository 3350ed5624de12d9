use Rattle.std.proofs.Common.{ap, ◌∙◌}
use Rattle.state_table.specs.CellViews.{targets_of}
use Rattle.state_table.specs.TableValues.{TableValue, goto_at}
use Rattle.lrpar.proofs.FullSteps.{goto_below}
use Rattle.lrpar.proofs.full_table.FullTable.search_target.Goals as goal

pub goto-requires-clause-rule : goal.goto-requires-clause-rule
goto-requires-clause-rule g c =
    let number = g.S.IndexStorage.number in
    let i = c.self.inside in
    goto_below number i.stable (number c.args.stidx.0) (targets_of number c.state_gotos-gotos.result.now) c.state_gotos-gotos.ensures.whole c.state_gotos-gotos.ensures.targets (number c.args.ridx.0) c.requires.there.0
    (ap (λ (v : TableValue). goto_at v (number c.args.stidx.0) (number c.args.ridx.0)) c.self.view_is ∙ c.requires.there.1)
