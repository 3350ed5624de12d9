use Rattle.std.proofs.Common.{◌∙◌, sym, arith}
use Rattle.lrtable.specs.Fronts.{front_of}
use Rattle.lrtable.proofs.OpenLaws.{mapped}
use Rattle.lrtable.proofs.Reaching.{comes_none, comes_more, step_room}
use Rattle.lrtable.proofs.opening.Opening.bring_all.Goals as goal

pub openers-init : goal.openers-init
openers-init c = record { comes = comes_none c.args.looks.now.bits c.args.self.now; fewer = omega arith }

pub bring_on-requires-clause-rules : goal.bring_on-requires-clause-rules
bring_on-requires-clause-rules c =
    let x = c.opener-item.result in
    let h = (c.requires.fit (front_of x) (mapped front_of c.args.reached.now c.openers.opener-index x c.openers-test.true c.opener-item.is)).rule in
    let n = c.openers.invariant.comes.sizes.opened in
    omega (arith, h, n)

pub bring_on-requires-clause-within : goal.bring_on-requires-clause-within
bring_on-requires-clause-within c =
    let x = c.opener-item.result in
    let h = (c.requires.fit (front_of x) (mapped front_of c.args.reached.now c.openers.opener-index x c.openers-test.true c.opener-item.is)).rule in
    let n = c.openers.invariant.comes.sizes.rows in
    let m = c.counts_agree.ensures in
    omega (arith, h, n, m)

pub bring_on-requires-clause-first : goal.bring_on-requires-clause-first
bring_on-requires-clause-first c =
    let x = c.opener-item.result in
    (c.requires.fit (front_of x) (mapped front_of c.args.reached.now c.openers.opener-index x c.openers-test.true c.opener-item.is)).first ∙ sym c.openers.invariant.comes.sizes.tokens

pub openers-preserved : goal.openers-preserved
openers-preserved c =
    let p = c.openers.invariant.fewer in
    let q = step_room c.args.looks.now.bits (front_of c.opener-item.result) c.openers.self c.bring_on.new.self c.bring_on.ensures.0 c.bring_on.ensures.1 in
    record {
      comes = comes_more front_of c.args.reached.now c.openers.opener-index c.opener-item.result c.args.looks.now.bits c.args.self.now c.openers.self c.bring_on.new.self c.openers-test.true c.opener-item.is c.openers.invariant.comes c.bring_on.ensures.1.comes;
      fewer = omega (arith, p, q);
    }
