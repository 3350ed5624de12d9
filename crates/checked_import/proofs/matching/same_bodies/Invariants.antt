-- The pairs so far are the same, and so all are if the others are.
use Rattle.std.proofs.Common.{◌≡◌, drop, map}
use Rattle.checked_import.specs.Spelling.{all_pairs}
use Rattle.checked_import.specs.SameRules as spec
use Rattle.bison_rules.specs.Models as bison
use Rattle.cfg_read.specs.SyntaxModels as models
use Rattle.checked_import.proofs.matching.same_bodies.Given as goal

abbrev pub invariant-bodies : goal.invariant-bodies
invariant-bodies l = all_pairs (spec.same_body (map bison.alias_pair l.aliases) (map models.level_of l.levels)) (map bison.body_of (drop l.i l.bodies)) (map models.alternative_of (drop l.i l.read)) ≡ all_pairs (spec.same_body (map bison.alias_pair l.aliases) (map models.level_of l.levels)) (map bison.body_of l.bodies) (map models.alternative_of l.read)
