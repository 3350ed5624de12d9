use Rattle.std.proofs.Common.{map, arith}
use Rattle.std.proofs.lemmas.List.{length-map}
use Rattle.lrtable.specs.States.{state_at}
use Rattle.lrtable.specs.StateViews.{value_of}
use Rattle.lrtable.proofs.Revisits.{none_below}
use Rattle.lrtable.proofs.revisiting.is_first.Goals as goal

pub returns-then-other-number : goal.returns-then-other-number
returns-then-other-number g c = λ _.
    let number = g.S.IndexStorage.number in
    let states = map (value_of number) c.args.states.now in
    let n = length-map c.args.states.now (value_of number) in
    let within = c.requires.number in
    none_below states (state_at states c.args.number).core.items c.args.bucket.now c.requires.bucket c.each.i c.args.number (omega (arith, n, within)) c.each.invariant (λ _. c.if-other-number.true)
