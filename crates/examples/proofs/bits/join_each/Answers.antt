use Rattle.std.proofs.Common.{ℕ, ◌≡◌, ◌≤◌, ◌+◌, cond, length, [], refl, sym, subst, ap, ◌∙◌, arith, add-zero}
use Rattle.vob.specs.Packed.{Contents}
use Rattle.examples.proofs.Joins.{one_more, Joined}
use Rattle.examples.proofs.bits.join_each.Goals as goal
use Rattle.examples.proofs.bits.join_each.Goals.{then-or, else-or}

pub loop-other-init : goal.loop-other-init
loop-other-init c = (refl, omega arith, ([], [], tt, refl, refl))

pub loop-other-preserved : goal.loop-other-preserved
loop-other-preserved c =
    let P : Contents → Type 0 = λ o. length o.bits ≡ length c.args.set.now.bits in
    let Q : ℕ → Type 0 = λ n. Joined c.args.set.now.bits c.or.new.self.bits n in
    let item : length c.other-item.result.bits ≡ length c.args.set.now.bits = subst P (sym c.other-item.is) (c.requires c.loop-other.other-index c.other-item.result c.loop-other-test.true) in
    let more = one_more c.args.set.now.bits c.loop-other.set.bits c.or.new.self.bits c.other-item.result.bits c.or.result c.loop-other.count c.loop-other.invariant.2 c.loop-other.invariant.0 item c.or.ensures.bits c.or.ensures.changed in
    let below = c.loop-other.invariant.1 in
    elim c.if-or.branch [
      | then-or w ↦ let is = w.count-is in (more.0, omega (arith, below, is), subst Q (ap (λ b. c.loop-other.count + cond b 1 0) w.if-or.true ∙ sym is) more.1)
      | else-or w ↦ let is = w.count-is in (more.0, omega (arith, below, is), subst Q (ap (λ b. c.loop-other.count + cond b 1 0) w.if-or.false ∙ add-zero c.loop-other.count ∙ sym is) more.1)
    ]

pub returns-clause-seldom : goal.returns-clause-seldom
returns-clause-seldom c =
    let P : ℕ → Type 0 = λ n. n ≤ length c.args.set.now.bits in
    let joined = c.loop-other.invariant.2 in
    subst P joined.4 (c.or_changes_seldom.ensures c.args.set.now.bits joined.0 joined.1 joined.2)
