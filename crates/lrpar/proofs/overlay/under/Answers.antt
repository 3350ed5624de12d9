use Rattle.std.proofs.Common.{◌≡◌, ◌-◌, length, get_or, take, reverse, sym, ap, ◌∙◌, subst, arith}
use Rattle.std.proofs.lemmas.List.{length-map}
use Rattle.lrpar.specs.Reducing.{states_of}
use Rattle.lrpar.specs.Replay.{first_of}
use Rattle.lrpar.proofs.Reduced.{number_at}
use Rattle.lrpar.proofs.Overlays.{over_at, drop_past, base_at}
use Rattle.lrpar.proofs.overlay.under.Goals as goal

pub returns-then-count-over : goal.returns-then-count-over
returns-then-count-over g c =
    let number = g.S.IndexStorage.number in
    let over = c.args.overlay.now.over.items in
    let ss = states_of number over in
    let x = number c.index.result.now.0 in
    let same : length ss ≡ length over = length-map over (λ q. number q.0) in
    let at : c.len-over.result - 1 - c.args.count ≡ length ss - 1 - c.args.count = omega (arith, same) in
    sym (over_at ss (reverse (take c.args.overlay.now.kept (states_of number c.args.base.now))) c.args.count x (omega (arith, same)) (subst (λ j. x ≡ get_or ss j x) at (number_at number over (c.len-over.result - 1 - c.args.count) c.index.result.now c.index.ensures)))

pub returns-then-more-overlay : goal.returns-then-more-overlay
returns-then-more-overlay g c =
    let number = g.S.IndexStorage.number in
    let over = c.args.overlay.now.over.items in
    let kept = c.args.overlay.now.kept in
    let ss = states_of number over in
    let bs = states_of number c.args.base.now in
    let x = number c.index-base-overlay.result.0 in
    let same : length ss ≡ length over = length-map over (λ q. number q.0) in
    let based : length bs ≡ length c.args.base.now = length-map c.args.base.now (λ q. number q.0) in
    let within = c.requires.within in
    let at : kept - 1 - (c.args.count - c.len-over.result) ≡ kept - 1 - (c.args.count - length ss) = omega (arith, same) in
    sym (ap first_of (drop_past ss (reverse (take kept bs)) c.args.count (omega (arith, same))) ∙ base_at bs kept (c.args.count - length ss) x (omega (arith, based, within)) (omega (arith, same)) (subst (λ j. x ≡ get_or bs j x) at (number_at number c.args.base.now (kept - 1 - (c.args.count - c.len-over.result)) c.index-base-overlay.result c.index-base-overlay.is)))
