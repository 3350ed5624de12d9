use Rattle.std.proofs.Common.{ℕ, ◌<◌, inl, inr, List, length, get_or, refl, sym, ap, ◌∙◌, subst, subst₂, arith}
use Rattle.cfg_sets.specs.Firsts.{AreUnderWay, IsClosedOrWaits}
use Rattle.cfg_sets.specs.WorkLists.{StandsFrom}
use Rattle.cfg_sets.proofs.WorkSteps.{taken_off, in_range, next_one, none_left}
use Rattle.cfg_sets.proofs.firsts.FillingWorkTable.take.Goals as goal

pub prods-init : goal.prods-init
prods-init g c =
    let s = c.args.self.now in
    let G = s.grm.now.grammar in
    record {
      grammar = refl;
      naming = refl;
      under_way = c.requires.sound;
      work = refl;
      closed = λ p lt. elim (c.requires.closed p lt) [
        | inl closed ↦ inl (inl closed)
        | inr named ↦ elim (taken_off G (length G.productions) s.naming.now c.args.work.now.list c.args.rule p c.requires.sound.naming lt named) [
          | inl waits ↦ inl (inr waits)
          | inr stands ↦ inr (subst (λ (l : List ℕ). StandsFrom l 0 p) (sym c.of-named.ensures) stands)
        ]
      ];
      room = omega arith;
    }

pub take_prod-requires-clause-production : goal.take_prod-requires-clause-production
take_prod-requires-clause-production g c =
    let s = c.args.self.now in
    let G = s.grm.now.grammar in
    let lt = c.prods-test.true in
    let here : get_or c.of-named.result.now c.prods.index 0 < length G.productions =
    subst (λ (l : List ℕ). get_or l c.prods.index 0 < length G.productions) (sym c.of-named.ensures)
    (in_range G (length G.productions) s.naming.now c.args.rule c.prods.index 0 c.requires.sound.naming (subst (λ (l : List ℕ). c.prods.index < length l) c.of-named.ensures lt)) in
    subst (λ v. get_or c.of-named.result.now c.prods.index 0 < length v.grammar.productions) (sym c.prods.invariant.grammar) here

pub take_prod-requires-clause-under_way : goal.take_prod-requires-clause-under_way
take_prod-requires-clause-under_way g c =
    let s = c.prods.self in
    let inv = c.prods.invariant in
    subst₂ (λ v lists. AreUnderWay v.grammar s.firsts s.row.bits s.done.bits lists) (sym inv.grammar) (sym inv.naming) inv.under_way

pub take_prod-requires-clause-work : goal.take_prod-requires-clause-work
take_prod-requires-clause-work g c = c.prods.invariant.work ∙ c.requires.work ∙ ap (λ v. v.grammar.rules) (sym c.prods.invariant.grammar)

pub prods-preserved : goal.prods-preserved
prods-preserved g c =
    let G = c.args.self.now.grm.now.grammar in
    let inv = c.prods.invariant in
    let next = c.in_ok-take_prod.ensures in
    let was = inv.room in
    let less = next.room in
    let i = c.prods.index in
    let named = c.of-named.result.now in
    let n = get_or named i 0 in
    let old = c.prods.self in
    let new = c.take_prod.new.self in
    let kept = subst (λ v. (q : ℕ) → IsClosedOrWaits v.grammar old.firsts c.prods.work.list q → IsClosedOrWaits v.grammar new.firsts c.take_prod.new.work.list q) inv.grammar next.kept in
    let here = subst (λ v. IsClosedOrWaits v.grammar new.firsts c.take_prod.new.work.list n) inv.grammar next.here in
    record {
      grammar = next.grammar ∙ inv.grammar;
      naming = next.naming ∙ inv.naming;
      under_way = subst₂ (λ v lists. AreUnderWay v.grammar new.firsts new.row.bits new.done.bits lists) inv.grammar inv.naming next.under_way;
      work = next.work ∙ inv.work;
      closed = λ p lt. next_one (IsClosedOrWaits G old.firsts c.prods.work.list) (IsClosedOrWaits G new.firsts c.take_prod.new.work.list) named i n c.prods-test.true refl kept here p (inv.closed p lt);
      room = omega (arith, was, less);
    }

pub returns-clause-rules : goal.returns-clause-rules
returns-clause-rules g c = ap (λ v. v.grammar.rules) c.prods.invariant.grammar

pub returns-clause-sound : goal.returns-clause-sound
returns-clause-sound g c =
    let s = c.prods.self in
    let inv = c.prods.invariant in
    subst₂ (λ v lists. AreUnderWay v.grammar s.firsts s.row.bits s.done.bits lists) (sym inv.grammar) (sym inv.naming) inv.under_way

pub returns-clause-closed : goal.returns-clause-closed
returns-clause-closed g c =
    let inv = c.prods.invariant in
    let s = c.prods.self in
    let all : (p : ℕ) → p < length c.args.self.now.grm.now.grammar.productions → IsClosedOrWaits c.args.self.now.grm.now.grammar s.firsts c.prods.work.list p = λ p lt.
    elim (inv.closed p lt) [
      | inl h ↦ h
      | inr stands ↦ absurd (none_left c.of-named.result.now c.prods.index p c.prods-test.false stands)
    ] in
    subst (λ v. (p : ℕ) → p < length v.grammar.productions → IsClosedOrWaits v.grammar s.firsts c.prods.work.list p) (sym inv.grammar) all
