use Rattle.std.proofs.Common.{refl, subst, sym, ◌∙◌}
use Rattle.state_table.specs.Rows.{Below}
use Rattle.state_table.specs.declared.stidx.StIdx.{StIdx}
use Rattle.state_table.proofs.FullRows.{rises_under}
use Rattle.lrpar.specs.FullTables.{IsFull}
use Rattle.lrpar.proofs.FullSteps.{below_under, are_targets}
use Rattle.lrpar.proofs.full_table.target_row.Goals as goal

pub full_row-requires-clause-rises : goal.full_row-requires-clause-rises
full_row-requires-clause-rises g c = rises_under (λ (x : StIdx g.row.S.Denot). g.S.IndexStorage.number x.0) c.state_gotos-gotos.result.now c.state_gotos-gotos.ensures.targets.rises

pub full_row-requires-clause-below : goal.full_row-requires-clause-below
full_row-requires-clause-below g c =
    let row = c.state_gotos-gotos.result.now in
    subst (λ k. Below k row) (sym (c.to_usize-count.ensures.value ∙ c.rules_len.ensures)) (below_under (λ (x : StIdx g.row.S.Denot). g.S.IndexStorage.number x.0) row c.args.stable.now.rules c.state_gotos-gotos.ensures.targets.below)

pub returns : goal.returns
returns g c =
    let number = g.S.IndexStorage.number in
    let row = c.state_gotos-gotos.result.now in
    are_targets number c.args.stable.now (number c.args.stidx.0) row c.args.stidx c.in_ok-row.row.items c.state_gotos-gotos.ensures.whole c.state_gotos-gotos.ensures.targets refl
    (subst (λ k. IsFull k row c.args.stidx c.in_ok-row.row.items) (c.to_usize-count.ensures.value ∙ c.rules_len.ensures) c.in_ok-row.ensures)
