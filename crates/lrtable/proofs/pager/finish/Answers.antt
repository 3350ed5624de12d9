use Rattle.std.proofs.Common.{map, arith}
use Rattle.std.proofs.lemmas.List.{length-map}
use Rattle.lrtable.specs.StateViews.{value_of}
use Rattle.lrtable.proofs.Handling.{at_end}
use Rattle.lrtable.proofs.pager.finish.Goals as goal

pub returns-in-None-clause-built : goal.returns-in-None-clause-built
returns-in-None-clause-built g c =
    let number = g.S.IndexStorage.number in
    let n = length-map c.steps.builder.states.items (value_of number) in
    at_end c.args.grm.now.grammar (map (value_of number) c.steps.builder.states.items) c.steps.invariant.builder.reached (λ s lt. c.in-None.ensures s (omega (arith, lt, n)))
