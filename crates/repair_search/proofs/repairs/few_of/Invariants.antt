-- All that was copied is few.
use Rattle.parse_trees.specs.Edits.{sequences_of}
use Rattle.repair_search.specs.FewEdits.{AreFew}
use Rattle.repair_search.proofs.repairs.few_of.Given as goal

abbrev pub invariant-sequences : goal.invariant-sequences
invariant-sequences g l = AreFew l.edits (sequences_of g.S.IndexStorage.number l.few.items)
