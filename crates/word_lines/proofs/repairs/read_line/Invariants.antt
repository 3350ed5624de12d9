-- The parts so far are taken.
use Rattle.std.proofs.Common.{length}
use Rattle.parse_trees.specs.Edits.{edits_of}
use Rattle.word_lines.proofs.SaidEdits.{SaidTo}
use Rattle.word_lines.proofs.repairs.read_line.Given as goal

abbrev pub invariant-parts : goal.invariant-parts
invariant-parts g l = SaidTo l.grm l.line (length l.yielded) (edits_of g.S.IndexStorage.number l.steps.items) l.inserting
