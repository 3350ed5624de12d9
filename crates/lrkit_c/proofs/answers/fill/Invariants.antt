-- The values so far are at the front, and behind them is what was there.
use Rattle.std.proofs.Common.{◌≡◌, ◌++◌, length, take, drop}
use Rattle.lrkit_c.proofs.answers.fill.Given as goal

abbrev pub invariant-each : goal.invariant-each
invariant-each g l = (l.out ≡ take l.index l.from ++ drop l.index l.initial.out) × (length l.out ≡ length l.initial.out)
