use Rattle.std.proofs.Common.{◌≡◌, drop, map, take}
use Rattle.parse_trees.specs.Edits.{sequences_of}
use Rattle.parse_trees.specs.Shown.{shown, shown_lists}
use Rattle.parse_trees.proofs.parse_repair.show_sequences.Given as goal

abbrev pub invariant-sequences : goal.invariant-sequences
invariant-sequences g l = shown_lists g.S.IndexStorage.number l.shown.items ≡ map (λ es. shown es (drop l.index l.lexemes)) (sequences_of g.S.IndexStorage.number (take l.steps-index l.sequences))
