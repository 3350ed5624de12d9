use Rattle.std.proofs.lemmas.Option.{IfSome_then}
use Rattle.lr_theory.specs.Canonical.{shift, reduce}
use Rattle.conflict_examples.specs.ExampleViews.{example_of}
use Rattle.conflict_examples.proofs.graph_examples.StateGraphConflictExamples.shift_reduce_example.Goals as goal

pub returns-clause-contest : goal.returns-clause-contest
returns-clause-contest g c =
    let number = g.S.IndexStorage.number in
    IfSome_then c.in_ok-found.found (rw c.in_ok-finder.ensures at c.in_ok-found.ensures.example) (λ x h. c.examples_are_contests.ensures.contest c.args.grm.now.grammar (example_of number x) shift (reduce (number c.args.entry.now.1.0)) h)

pub returns-clause-example : goal.returns-clause-example
returns-clause-example g c = rw c.in_ok-finder.ensures at c.in_ok-found.ensures.example

pub returns-clause-state : goal.returns-clause-state
returns-clause-state g c = rw c.in_ok-finder.ensures at c.in_ok-found.ensures.state
