use Rattle.std.proofs.Common.{◌<◌, ℕ, List, length, map, sym, subst, arith}
use Rattle.std.proofs.lemmas.List.{length-map}
use Rattle.lrtable.specs.Pruning.{AreLinked, IsCut, IsLed}
use Rattle.lrtable.specs.StateViews.{value_of}
use Rattle.lrtable.specs.declared.states.State.{State}
use Rattle.lrtable.proofs.Whole.{cut_whole}
use Rattle.lrtable.proofs.pruning.prune.Goals as goal

pub are_led-requires-clause-linked : goal.are_led-requires-clause-linked
are_led-requires-clause-linked g c =
    let number = g.S.IndexStorage.number in
    subst (λ (l : List (State g.row.S.Denot)). AreLinked (map (value_of number) l)) (sym c.as_slice.ensures.value) c.requires.linked

pub returns-then-led : goal.returns-then-led
returns-then-led g c =
    let number = g.S.IndexStorage.number in
    let xs = c.args.states.now.items in
    let states = map (value_of number) xs in
    let m = length-map xs (value_of number) in
    let some = c.requires.some in
    let led = subst (λ (l : List (State g.row.S.Denot)). (s : ℕ) → s < length l → IsLed (map (value_of number) l) s) c.as_slice.ensures.value (c.in_ok-led.ensures c.if-led.true) in
    subst (λ (l : List (State g.row.S.Denot)). IsCut states (map (value_of number) l)) (sym c.whole.ensures)
    (cut_whole states (omega (arith, some, m)) c.requires.linked (λ s lt. led s (omega (arith, lt, m))))
