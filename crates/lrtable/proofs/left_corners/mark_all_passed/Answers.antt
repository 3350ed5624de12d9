use Rattle.std.proofs.Common.{arith}
use Rattle.lrtable.specs.Fronts.{front_of}
use Rattle.lrtable.proofs.OpenLaws.{mapped}
use Rattle.lrtable.proofs.Passing.{passed_none, passed_more}
use Rattle.lrtable.proofs.left_corners.mark_all_passed.Goals as goal

pub openers-init : goal.openers-init
openers-init c = passed_none c.args.passed.now.bits c.args.waiting.now.items

pub mark_passed-requires : goal.mark_passed-requires
mark_passed-requires c =
    let x = c.opener-item.result in
    let lt = c.requires (front_of x) (mapped front_of c.args.openers.now c.openers.opener-index x c.openers-test.true c.opener-item.is) in
    let n = c.openers.invariant.size in
    omega (arith, lt, n)

pub openers-preserved : goal.openers-preserved
openers-preserved c =
    passed_more front_of c.args.openers.now c.openers.opener-index c.opener-item.result c.args.passed.now.bits c.openers.passed.bits c.mark_passed.new.passed.bits c.args.waiting.now.items c.openers.waiting.items c.mark_passed.new.waiting.items
    c.openers-test.true c.opener-item.is c.openers.invariant c.in_ok-mark_passed.ensures
