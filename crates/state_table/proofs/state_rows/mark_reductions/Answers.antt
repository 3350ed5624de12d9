use Rattle.std.proofs.Common.{◌≡◌, ◌+◌, [], false, get_or, take, ◌∙◌}
use Rattle.vob.specs.Sets.{is_set}
use Rattle.state_table.specs.CellRows.{reductions_on}
use Rattle.state_table.specs.CellViews.{reductions_of}
use Rattle.state_table.specs.Meeting.{rows_in}
use Rattle.state_table.proofs.Marks.{leaves_both}
use Rattle.state_table.proofs.TokenReductions.{without_own}
use Rattle.state_table.proofs.state_rows.mark_reductions.Goals as goal

pub each-preserved : goal.each-preserved
each-preserved g c =
    let number = g.S.IndexStorage.number in
    let sets = rows_in c.args.sets.now in
    let xs = c.args.reductions.now in
    let x = c.index-reductions-i.result in
    leaves_both (λ t. reductions_on (reductions_of number sets (take c.each.i xs)) t ≡ []) (λ t. is_set (get_or sets x.set []) t ≡ false) (λ t. reductions_on (reductions_of number sets (take (c.each.i + 1) xs)) t ≡ [])
    c.args.marks.now.bits c.each.marks.bits c.mark_reduction.new.marks.bits c.each.invariant c.mark_reduction.ensures (λ t none off. without_own number sets xs t c.each.i x c.each-test.true c.index-reductions-i.is off ∙ none)
