use Rattle.std.proofs.Common.{◌≡◌, ◌<◌, true, length, sym, subst, arith}
use Rattle.std.proofs.lemmas.List.{length-map}
use Rattle.maximal_munch.specs.Beginnings.{row_items, is_tried, KeepsTried}
use Rattle.maximal_munch.proofs.TriedLemmas.{put_items, keep_items, kept_same, put_keeps, put_adds}
use Rattle.maximal_munch.proofs.tried.push_at.Goals as goal

pub returns-in_err-push-clause-keeps : goal.returns-in_err-push-clause-keeps
returns-in_err-push-clause-keeps c =
    kept_same _ _ (keep_items c.args.rows.now.items c.args.byte c.index_mut-row.result.now c.push.new.self (omega (arith, c.requires, length-map c.args.rows.now.items (λ r. r.items))) c.index_mut-row.ensures.value c.in_err-push.ensures.items)

pub returns-clause-keeps : goal.returns-clause-keeps
returns-clause-keeps c =
    let rows = c.args.rows.now.items in
    let within : c.args.byte < length rows = omega (arith, c.requires, length-map rows (λ r. r.items)) in
    subst (KeepsTried (row_items c.args.rows.now)) (sym (put_items rows c.args.byte c.index_mut-row.result.now c.push.new.self within c.index_mut-row.ensures.value c.args.rule c.in_ok-push.ensures.items))
    (put_keeps (row_items c.args.rows.now) c.args.byte c.args.rule c.requires)

pub returns-clause-adds : goal.returns-clause-adds
returns-clause-adds c =
    let rows = c.args.rows.now.items in
    let within : c.args.byte < length rows = omega (arith, c.requires, length-map rows (λ r. r.items)) in
    subst (λ it. is_tried it c.args.byte c.args.rule ≡ true) (sym (put_items rows c.args.byte c.index_mut-row.result.now c.push.new.self within c.index_mut-row.ensures.value c.args.rule c.in_ok-push.ensures.items))
    (put_adds (row_items c.args.rows.now) c.args.byte c.args.rule c.requires)
