use Rattle.std.proofs.Common.{◌≡◌, ◌-◌, ◌<◌, length, ap, ◌∙◌, refl, sym, subst, arith, rules}
use Rattle.lr_theory.specs.ItemLists.{Stands}
use Rattle.state_table.specs.ItemRows.{IsAt}
use Rattle.state_table.specs.Meeting.{row}
use Rattle.state_table.specs.CoreViews.{item_of, items_of}
use Rattle.lrtable.specs.Revisits.{core_noted}
use Rattle.lrtable.proofs.Revisits.{closed_in_range, head_in_range, by_rule, own_item, by_own}
use Rattle.lrtable.proofs.revisiting.source_behind.Goals as goal

pub prod_to_rule-requires : goal.prod_to_rule-requires
prod_to_rule-requires g c =
    let number = g.S.IndexStorage.number in
    let G = c.args.grm.now.grammar in
    let v = c.requires.noted in
    let (fronts, are, closed) = v.closed in
    let (d, z, h) = c.requires.moved in
    closed_in_range G c.start_prod.ensures.well_formed fronts are (core_noted number c.args.was.now c.args.rows.now) v.fits v.kernel c.args.rows.now.opening closed (number c.args.item.now.pidx.0) d h

pub of_rule-looks-requires : goal.of_rule-looks-requires
of_rule-looks-requires g c =
    let number = g.S.IndexStorage.number in
    let G = c.args.grm.now.grammar in
    let good = c.start_prod.ensures.well_formed in
    let v = c.requires.noted in
    let (fronts, are, closed) = v.closed in
    let (d, z, h) = c.requires.moved in
    let p = number c.args.item.now.pidx.0 in
    let in_range = closed_in_range G good fronts are (core_noted number c.args.was.now c.args.rows.now) v.fits v.kernel c.args.rows.now.opening closed p d h in
    let below = head_in_range G good fronts are (core_noted number c.args.was.now c.args.rows.now) v.fits v.kernel c.args.rows.now.opening closed p in_range in
    let rows = v.sizes.rows in
    let e = c.to_usize-rule.ensures.value in
    let f = c.prod_to_rule.ensures in
    omega (arith, below, rows, e, f)

pub returns-then-was_opened : goal.returns-then-was_opened
returns-then-was_opened g c =
    let number = g.S.IndexStorage.number in
    let G = c.args.grm.now.grammar in
    let v = c.requires.noted in
    let (fronts, are, closed) = v.closed in
    let opened = c.was_opened.ensures.opened c.if-was_opened.true in
    by_rule G c.start_prod.ensures.well_formed fronts are (core_noted number c.args.was.now c.args.rows.now) v.fits v.kernel c.args.rows.now.opening closed (item_of number c.args.item.now) (row c.args.rows.now.opening.rows c.to_usize-rule.result) opened.0 opened.1 c.requires.moved
    (ap (λ n. row c.args.rows.now.opening.rows n) (c.to_usize-rule.ensures.value ∙ c.prod_to_rule.ensures))
    (ap length (sym c.of_rule-looks.ensures.bits) ∙ (c.of_rule-looks.ensures.width ∙ v.sizes.tokens))

pub index-hint-requires : goal.index-hint-requires
index-hint-requires g c =
    let number = g.S.IndexStorage.number in
    let G = c.args.grm.now.grammar in
    let v = c.requires.noted in
    let (fronts, are, closed) = v.closed in
    let (d, z, h) = c.requires.moved in
    let p = number c.args.item.now.pidx.0 in
    let in_range = closed_in_range G c.start_prod.ensures.well_formed fronts are (core_noted number c.args.was.now c.args.rows.now) v.fits v.kernel c.args.rows.now.opening closed p d h in
    let hints = v.hints in
    let e = c.to_usize.ensures.value in
    let lt : c.to_usize.result < length c.args.was.now.hints.items = omega (arith, e, in_range, hints) in
    search rules

pub index_by_hint-requires : goal.index_by_hint-requires
index_by_hint-requires g c =
    let number = g.S.IndexStorage.number in
    let G = c.args.grm.now.grammar in
    let v = c.requires.noted in
    let (fronts, are, closed) = v.closed in
    let (d, z, h) = c.requires.moved in
    let p = number c.args.item.now.pidx.0 in
    let dot = c.to_usize-dot.ensures.value in
    let made : number c.unwrap.result ≡ c.to_usize-dot.result - 1 = search rules in
    let is : d ≡ number c.unwrap.result = omega (arith, z, dot, made) in
    subst (λ l. Stands (items_of number l) p (number c.unwrap.result)) (sym c.as_slice.ensures.value)
    (subst (λ n. Stands (items_of number c.args.was.now.items.items) p n) is
    (own_item G c.start_prod.ensures.well_formed fronts are (core_noted number c.args.was.now c.args.rows.now) v.fits v.kernel c.args.rows.now.opening closed p d (λ q. c.was_opened.ensures.own c.if-was_opened.false (omega (arith, z, q))) h))

pub returns : goal.returns
returns g c =
    let number = g.S.IndexStorage.number in
    let G = c.args.grm.now.grammar in
    let v = c.requires.noted in
    let (fronts, are, closed) = v.closed in
    let (d, z, h) = c.requires.moved in
    let p = number c.args.item.now.pidx.0 in
    let dot = c.to_usize-dot.ensures.value in
    let made : number c.unwrap.result ≡ c.to_usize-dot.result - 1 = search rules in
    let is : number c.unwrap.result ≡ d = omega (arith, z, dot, made) in
    let k = c.index_by_hint.result in
    by_own G c.start_prod.ensures.well_formed fronts are (core_noted number c.args.was.now c.args.rows.now) v.fits v.kernel c.args.rows.now.opening closed (item_of number c.args.item.now) d k (row c.args.rows.now.own k) z
    (λ q. c.was_opened.ensures.own c.if-was_opened.false (omega (arith, z, q))) (subst (IsAt (items_of number c.args.was.now.items.items) k p) is (subst (λ l. IsAt (items_of number l) k p (number c.unwrap.result)) c.as_slice.ensures.value c.index_by_hint.ensures)) refl
