use Rattle.std.proofs.Common.{ℕ, ◌<◌, ◌≤◌, inl, inr, length, get_or, refl, sym, ap, ◌∙◌, subst, subst₂, arith}
use Rattle.cfg_sets.specs.Firsts.{AreUnderWay, IsClosedOrWaits}
use Rattle.cfg_sets.proofs.WorkSteps.{from_start, next_one, none_left}
use Rattle.cfg_sets.proofs.firsts.Filling.start.Goals as goal

pub prods-init : goal.prods-init
prods-init g c = record {
  grammar = refl;
  naming = refl;
  under_way = c.requires.under_way;
  work = refl;
  closed = λ p lt. inr (from_start c.args.order.now p (c.requires.order.all p lt));
  room = omega arith;
}

pub take_prod-requires-clause-production : goal.take_prod-requires-clause-production
take_prod-requires-clause-production g c =
    let G = c.args.self.now.grm.now.grammar in
    let list = c.args.order.now in
    let i = c.prods.index in
    let e = c.at.ensures in
    let len = c.len-index-end.ensures in
    let lt = c.prods-test.true in
    let in_list : i < length list = omega (arith, len, lt) in
    let low : get_or list i 0 < length G.productions = c.requires.order.within i 0 in_list in
    let here : c.at.result < length G.productions = omega (arith, low, e) in
    subst (λ v. c.at.result < length v.grammar.productions) (sym c.prods.invariant.grammar) here

pub take_prod-requires-clause-under_way : goal.take_prod-requires-clause-under_way
take_prod-requires-clause-under_way g c =
    let s = c.prods.self in
    let inv = c.prods.invariant in
    subst₂ (λ v lists. AreUnderWay v.grammar s.firsts s.row.bits s.done.bits lists) (sym inv.grammar) (sym inv.naming) inv.under_way

pub take_prod-requires-clause-work : goal.take_prod-requires-clause-work
take_prod-requires-clause-work g c = c.prods.invariant.work ∙ c.requires.work ∙ ap (λ v. v.grammar.rules) (sym c.prods.invariant.grammar)

pub prods-preserved : goal.prods-preserved
prods-preserved g c =
    let G = c.args.self.now.grm.now.grammar in
    let list = c.args.order.now in
    let i = c.prods.index in
    let n = c.at.result in
    let len = c.len-index-end.ensures in
    let lt = c.prods-test.true in
    let in_list : i < length list = omega (arith, len, lt) in
    let inv = c.prods.invariant in
    let next = c.in_ok-take_prod.ensures in
    let was = inv.room in
    let less = next.room in
    let old = c.prods.self in
    let new = c.take_prod.new.self in
    let kept = subst (λ v. (q : ℕ) → IsClosedOrWaits v.grammar old.firsts c.prods.work.list q → IsClosedOrWaits v.grammar new.firsts c.take_prod.new.work.list q) inv.grammar next.kept in
    let here = subst (λ v. IsClosedOrWaits v.grammar new.firsts c.take_prod.new.work.list n) inv.grammar next.here in
    record {
      grammar = next.grammar ∙ inv.grammar;
      naming = next.naming ∙ inv.naming;
      under_way = subst₂ (λ v lists. AreUnderWay v.grammar new.firsts new.row.bits new.done.bits lists) inv.grammar inv.naming next.under_way;
      work = next.work ∙ inv.work;
      closed = λ p lt. next_one (IsClosedOrWaits G old.firsts c.prods.work.list) (IsClosedOrWaits G new.firsts c.take_prod.new.work.list) list i n in_list (sym c.at.ensures) kept here p (inv.closed p lt);
      room = omega (arith, was, less);
    }

pub returns-clause-closed : goal.returns-clause-closed
returns-clause-closed g c =
    let len = c.len-index-end.ensures in
    let end = c.prods-test.false in
    let le : length c.args.order.now ≤ c.prods.index = omega (arith, len, end) in
    λ p lt. elim (c.prods.invariant.closed p lt) [
      | inl h ↦ h
      | inr stands ↦ absurd (none_left c.args.order.now c.prods.index p le stands)
    ]
