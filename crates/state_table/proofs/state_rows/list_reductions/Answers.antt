use Rattle.std.proofs.Common.{sym, ◌∙◌, ap, ◌≡◌, get_or, []}
use Rattle.vob.specs.Sets.{is_set}
use Rattle.state_table.specs.CellViews.{pairs_of, production_of}
use Rattle.state_table.specs.Meeting.{rows_in}
use Rattle.state_table.proofs.TokenReductions.{first_noted, first_kept, pairs_noted, pairs_kept}
use Rattle.state_table.proofs.state_rows.list_reductions.Goals as goal
use Rattle.state_table.proofs.state_rows.list_reductions.Goals.{then-has_token+in_ok-note_reduction, else-has_token}

pub each-preserved : goal.each-preserved
each-preserved g c =
    let number = g.S.IndexStorage.number in
    let v = c.each.invariant in
    let sets = rows_in c.args.sets.now in
    let xs = c.args.reductions.now in
    let t = number c.args.tidx.0 in
    let s = number c.args.stidx.0 in
    let x = c.index-reductions-i.result in
    let lt = c.each-test.true in
    let at = c.index-reductions-i.is in
    let tested : c.has_token.result ≡ is_set (get_or sets x.set []) t = c.has_token.ensures ∙ ap (λ n. is_set (get_or sets x.set []) n) c.to_usize-number.ensures.value in
    let first = production_of number c.each.first in
    let first' = production_of number c.if-has_token.first in
    let before = pairs_of number c.args.listed.now.items in
    let listed = pairs_of number c.each.listed.items in
    let listed' = pairs_of number c.if-has_token.listed.items in
    record {
      first = elim c.if-has_token.branch [
        | then-has_token+in_ok-note_reduction w ↦ first_noted number sets xs t c.each.i x lt at first first' (sym tested ∙ w.if-has_token.true) v.first (ap (λ o. production_of number o) w.first-is ∙ w.in_ok-note_reduction.ensures.first)
        | else-has_token w ↦ first_kept number sets xs t c.each.i x lt at first first' (sym tested ∙ w.if-has_token.false) v.first (ap (λ o. production_of number o) w.first-is)
      ];
      listed = elim c.if-has_token.branch [
        | then-has_token+in_ok-note_reduction w ↦ pairs_noted number sets xs t c.each.i x lt at s first before listed listed' (sym tested ∙ w.if-has_token.true) v.first v.listed (ap (λ l. pairs_of number l.items) w.listed-is ∙ w.in_ok-note_reduction.ensures.listed)
        | else-has_token w ↦ pairs_kept number sets xs t c.each.i x lt at s before listed listed' (sym tested ∙ w.if-has_token.false) v.listed (ap (λ l. pairs_of number l.items) w.listed-is)
      ];
    }
