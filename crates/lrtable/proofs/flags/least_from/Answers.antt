use Rattle.std.proofs.Common.{get_or, sym}
use Rattle.std.proofs.lemmas.Grind.{get_or_default_zero}
use Rattle.lrtable.proofs.FlagWalks.{least_next}
use Rattle.lrtable.proofs.flags.least_from.Goals as goal

pub numbers-preserved : goal.numbers-preserved
numbers-preserved c =
    let xs = c.args.numbers.now in
    let k = c.numbers.k in
    let x = get_or xs k 0 in
    let lt = c.numbers-test.true in
    least_next c.args.bits.now.bits c.args.from c.numbers.least c.lesser_of-least.result k x xs lt (sym (get_or_default_zero xs k x lt)) c.numbers.invariant c.lesser_of-least.ensures.within c.lesser_of-least.ensures.less c.lesser_of-least.ensures.none
