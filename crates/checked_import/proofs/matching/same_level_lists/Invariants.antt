-- The levels are the same if the others are those that are left.
use Rattle.std.proofs.Common.{◌≡◌, drop, map}
use Rattle.checked_import.specs.SameRules as spec
use Rattle.bison_rules.specs.Models as bison
use Rattle.cfg_read.specs.SyntaxModels as models
use Rattle.checked_import.proofs.matching.same_level_lists.Given as goal

abbrev pub invariant-levels : goal.invariant-levels
invariant-levels l = spec.same_levels (map bison.alias_pair l.aliases) (map bison.level_of (drop l.level-index l.levels)) (map models.level_of l.rest) ≡ spec.same_levels (map bison.alias_pair l.aliases) (map bison.level_of l.levels) (map models.level_of l.read)
