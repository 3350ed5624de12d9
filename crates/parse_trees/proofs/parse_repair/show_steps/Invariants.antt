use Rattle.std.proofs.Common.{◌≡◌, ◌++◌, drop, map}
use Rattle.parse_trees.specs.Edits.{edits_of}
use Rattle.parse_trees.specs.Shown.{shown, shown_of}
use Rattle.parse_trees.proofs.parse_repair.show_steps.Given as goal

abbrev pub invariant-steps : goal.invariant-steps
invariant-steps g l = map (shown_of g.S.IndexStorage.number) l.repairs.items ++ shown (edits_of g.S.IndexStorage.number (drop l.number l.steps)) (drop l.at l.lexemes) ≡ shown (edits_of g.S.IndexStorage.number l.steps) (drop l.index l.lexemes)
