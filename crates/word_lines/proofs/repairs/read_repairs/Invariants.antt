-- The lines so far are read.
use Rattle.std.proofs.Common.{length}
use Rattle.std.specs.Str.Lines.{lines}
use Rattle.parse_trees.specs.Edits.{sequences_of}
use Rattle.word_lines.proofs.ReadLines.{ReadTo}
use Rattle.word_lines.proofs.repairs.read_repairs.Given as goal

abbrev pub invariant-lines : goal.invariant-lines
invariant-lines g l = ReadTo l.grm (lines l.text) (length l.yielded) (sequences_of g.S.IndexStorage.number l.sequences.items)
