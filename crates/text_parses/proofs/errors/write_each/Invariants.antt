-- The errors so far are told.
use Rattle.std.proofs.Common.{take}
use Rattle.text_parses.specs.Parses.{TellsErrors}
use Rattle.text_parses.proofs.errors.write_each.Given as goal

abbrev pub invariant-errors : goal.invariant-errors
invariant-errors g l = TellsErrors l.shown.source.now l.shown.start (take l.index l.errors) (g.W.Sink.known l.initial.out) (g.W.Sink.known l.out)
