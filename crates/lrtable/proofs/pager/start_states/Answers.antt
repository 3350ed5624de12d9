use Rattle.std.proofs.Common.{refl, rules}
use Rattle.lrtable.proofs.Starting.{start_seen}
use Rattle.lrtable.proofs.pager.start_states.Goals as goal

pub returns-clause-reached : goal.returns-clause-reached
returns-clause-reached g c =
    let number = g.S.IndexStorage.number in
    let G = c.args.grm.now.grammar in
    start_seen G number _ _ _ _ c.in_ok-end_looks.field-0 _ _ c.in_ok-states.ensures.items c.in_ok-push-3.ensures.items c.new-items.ensures.items c.in_ok-push.ensures.items c.new-looks.ensures.items c.in_ok-push-2.ensures.items c.new.ensures.items refl c.start_prod.ensures.value (search rules)
    c.in_ok-end_looks.ensures.width c.in_ok-end_looks.ensures.bits
