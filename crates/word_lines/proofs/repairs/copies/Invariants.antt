-- The sequences so far are copied.
use Rattle.std.proofs.Common.{◌≡◌, take}
use Rattle.parse_trees.specs.Edits.{sequences_of}
use Rattle.word_lines.proofs.repairs.copies.Given as goal

abbrev pub invariant-sequences : goal.invariant-sequences
invariant-sequences g l = sequences_of g.S.IndexStorage.number l.all.items ≡ sequences_of g.S.IndexStorage.number (take l.index l.sequences)
