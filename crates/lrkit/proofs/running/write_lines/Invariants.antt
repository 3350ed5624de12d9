-- The texts of the lines so far are out, but for what waits.
use Rattle.std.proofs.Common.{◌≡◌, length, take}
use Rattle.std.specs.Str.Lines.{lines}
use Rattle.lrkit.specs.Writing.{LeavesLines}
use Rattle.lrkit.proofs.running.write_lines.Given as goal

abbrev pub invariant-lines : goal.invariant-lines
invariant-lines g l = LeavesLines l.kit l.repairs (take (length l.yielded) (lines l.line_text)) (g.W.Sink.known l.initial.out) (g.W.Sink.known l.out) l.text.items l.faulty × (g.W.Sink.faults l.out ≡ g.W.Sink.faults l.initial.out)
