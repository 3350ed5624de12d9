use Rattle.std.proofs.Common.{get_or, arith}
use Rattle.std.proofs.lemmas.List.Elements.{Contains-get_or}
use Rattle.lrtable.proofs.FlagWalks.{cleared_all}
use Rattle.lrtable.proofs.flags.clear_each.Goals as goal

pub set-requires : goal.set-requires
set-requires c =
    let xs = c.args.numbers.now in
    let i = c.numbers.number-index in
    let lt = c.requires.within (get_or xs i 0) (Contains-get_or xs i 0 c.numbers-test.true) in
    let n = c.numbers.invariant.width in
    omega (arith, lt, n)

pub returns : goal.returns
returns c =
    let end = c.numbers-test.false in
    cleared_all c.args.bits.now.bits c.numbers.bits.bits c.args.numbers.now c.numbers.number-index (omega (arith, end)) c.requires.all c.numbers.invariant
