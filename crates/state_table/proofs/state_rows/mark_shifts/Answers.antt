use Rattle.std.proofs.Common.{◌≡◌, ◌+◌, None, get_or, take, ap, ◌∙◌}
use Rattle.state_table.specs.CellViews.{targets_of}
use Rattle.state_table.specs.Rows.{at_of}
use Rattle.state_table.proofs.BlankCells.{edge_more}
use Rattle.state_table.proofs.Marks.{leaves_both}
use Rattle.state_table.proofs.state_rows.mark_shifts.Goals as goal

pub each-preserved : goal.each-preserved
each-preserved g c =
    let number = g.S.IndexStorage.number in
    let xs = c.args.shifts.now in
    let x = c.index-shifts-i.result in
    leaves_both (λ t. at_of (targets_of number (take c.each.i xs)) t ≡ None) (λ t. t ≡ (get_or xs c.each.i x).0 → ⊥) (λ t. at_of (targets_of number (take (c.each.i + 1) xs)) t ≡ None)
    c.args.marks.now.bits c.each.marks.bits c.mark_token.new.marks.bits c.each.invariant c.mark_token.ensures (λ t none other. edge_more number xs c.each.i t x c.each-test.true c.index-shifts-i.is none (λ q. other (q ∙ ap (λ y. y.0) c.index-shifts-i.is)))
