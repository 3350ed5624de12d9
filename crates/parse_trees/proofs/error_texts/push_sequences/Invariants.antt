use Rattle.std.proofs.Common.{◌≡◌, ◌++◌, ◌+◌, map, drop, length}
use Rattle.std.specs.String.{string_bytes}
use Rattle.parse_trees.specs.ErrorTexts.{sequence_lines}
use Rattle.parse_trees.proofs.error_texts.push_sequences.Given as goal

abbrev pub invariant-sequences : goal.invariant-sequences
invariant-sequences l = string_bytes l.text ++ sequence_lines (length l.sequences) (l.i + 1) (map string_bytes (drop l.i l.sequences)) ≡ string_bytes l.initial.text ++ sequence_lines (length l.sequences) 1 (map string_bytes l.sequences)
