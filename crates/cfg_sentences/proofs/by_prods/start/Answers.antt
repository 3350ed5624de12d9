use Rattle.std.proofs.Common.{ℕ, ◌<◌, ◌≤◌, ◌⊎◌, inl, inr, length, get_or, refl, sym, ap, ◌∙◌, subst, arith}
use Rattle.cfg_theory.specs.Grammar.{Grammar}
use Rattle.cfg_sets.specs.WorkLists.{NamesOne}
use Rattle.cfg_sets.proofs.WorkSteps.{from_start, next_one, none_left}
use Rattle.cfg_sentences.proofs.by_prods.start.Goals as goal

pub prods-init : goal.prods-init
prods-init g c = record {
  grammar = refl;
  same = g.T.ProdTable.same_refl c.args.table.now;
  sound = c.requires.sound;
  work = refl;
  closed = λ p lt. inr (from_start c.args.order.now p (c.requires.order.all p lt));
  room = omega arith;
}

pub take_in-requires-clause-production : goal.take_in-requires-clause-production
take_in-requires-clause-production g c =
    let G = g.T.ProdTable.grammar c.args.table.now in
    let list = c.args.order.now in
    let i = c.prods.index in
    let e = c.at.ensures in
    let len = c.len-index-end.ensures in
    let lt = c.prods-test.true in
    let in_list : i < length list = omega (arith, len, lt) in
    let low : get_or list i 0 < length G.productions = c.requires.order.within i 0 in_list in
    let here : c.at.result < length G.productions = omega (arith, low, e) in
    subst (λ (H : Grammar). c.at.result < length H.productions) (sym c.prods.invariant.grammar) here

pub take_in-requires-clause-work : goal.take_in-requires-clause-work
take_in-requires-clause-work g c = c.prods.invariant.work ∙ c.requires.work ∙ ap (λ (H : Grammar). H.rules) (sym c.prods.invariant.grammar)

pub prods-preserved : goal.prods-preserved
prods-preserved g c =
    let G = g.T.ProdTable.grammar c.args.table.now in
    let list = c.args.order.now in
    let i = c.prods.index in
    let n = c.at.result in
    let len = c.len-index-end.ensures in
    let lt = c.prods-test.true in
    let in_list : i < length list = omega (arith, len, lt) in
    let inv = c.prods.invariant in
    let next = c.in_ok-take_in.ensures in
    let was = inv.room in
    let less = next.room in
    let C = g.T.ProdTable.is_closed_by in
    let kept : (p : ℕ) → C c.prods.table p ⊎ NamesOne G c.prods.work.list p → C c.take_in.new.table p ⊎ NamesOne G c.take_in.new.work.list p =
    subst (λ (H : Grammar). (p : ℕ) → C c.prods.table p ⊎ NamesOne H c.prods.work.list p → C c.take_in.new.table p ⊎ NamesOne H c.take_in.new.work.list p) inv.grammar next.kept in
    let here : C c.take_in.new.table n ⊎ NamesOne G c.take_in.new.work.list n = subst (λ (H : Grammar). C c.take_in.new.table n ⊎ NamesOne H c.take_in.new.work.list n) inv.grammar next.here in
    record {
      grammar = next.grammar ∙ inv.grammar;
      same = g.T.ProdTable.same_trans c.args.table.now c.prods.table c.take_in.new.table inv.same next.same;
      sound = next.sound;
      work = next.work ∙ inv.work;
      closed = λ p in_range. next_one (λ q. C c.prods.table q ⊎ NamesOne G c.prods.work.list q) (λ q. C c.take_in.new.table q ⊎ NamesOne G c.take_in.new.work.list q) list i n in_list (sym c.at.ensures) kept here p (inv.closed p in_range);
      room = omega (arith, was, less);
    }

pub returns-clause-closed : goal.returns-clause-closed
returns-clause-closed g c =
    let len = c.len-index-end.ensures in
    let end = c.prods-test.false in
    let le : length c.args.order.now ≤ c.prods.index = omega (arith, len, end) in
    λ p lt. elim (c.prods.invariant.closed p lt) [
      | inl h ↦ h
      | inr stands ↦ absurd (none_left c.args.order.now c.prods.index p le stands)
    ]
