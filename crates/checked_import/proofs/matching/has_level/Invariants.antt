-- None of the levels so far has the token.
use Rattle.std.proofs.Common.{◌≡◌, drop, map}
use Rattle.std.specs.List.{list_any}
use Rattle.cfg_read.specs.SyntaxModels.{level_of}
use Rattle.checked_import.specs.SameRules.{is_in_level}
use Rattle.checked_import.proofs.matching.has_level.Given as goal

abbrev pub invariant-levels : goal.invariant-levels
invariant-levels l = list_any (is_in_level l.token) (map level_of (drop l.level-index l.levels)) ≡ list_any (is_in_level l.token) (map level_of l.levels)
