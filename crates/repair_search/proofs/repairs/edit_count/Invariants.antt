-- The steps so far are counted.
use Rattle.std.proofs.Common.{◌≡◌, ◌≤◌, take}
use Rattle.parse_trees.specs.Edits.{edits_of}
use Rattle.repair_search.specs.FewEdits.{edits_in}
use Rattle.repair_search.proofs.repairs.edit_count.Given as goal

abbrev pub invariant-steps : goal.invariant-steps
invariant-steps g l = (l.count ≡ edits_in (edits_of g.S.IndexStorage.number (take l.step-index l.steps))) × (l.count ≤ l.step-index)
