-- The steps so far are taken.
use Rattle.std.proofs.Common.{◌≡◌, take}
use Rattle.lrkit_c.specs.Reading.{TakesSteps}
use Rattle.lrkit_c.proofs.reading.take_steps.Given as goal

abbrev pub invariant-steps : goal.invariant-steps
invariant-steps l =
    (l.prefix.parser ≡ l.initial.prefix.parser) ×
    TakesSteps l.initial.prefix.parser (take l.index l.steps) (record { front = l.initial.prefix.tokens; left = l.left }) (record { front = l.prefix.tokens; left = l.rest })
