-- The pairs so far are the same, and so all are if the others are.
use Rattle.std.proofs.Common.{◌≡◌, drop, map}
use Rattle.checked_import.specs.Spelling.{all_pairs}
use Rattle.checked_import.specs.SameRules as spec
use Rattle.bison_rules.specs.Models as bison
use Rattle.cfg_read.specs.SyntaxModels as models
use Rattle.checked_import.proofs.matching.same_lists.Given as goal

abbrev pub invariant-rules : goal.invariant-rules
invariant-rules l = all_pairs (spec.same_rule (map bison.alias_pair l.aliases) (map models.level_of l.levels)) (map bison.rule_of (drop l.i l.rules)) (map models.rule_of (drop l.i l.read)) ≡ all_pairs (spec.same_rule (map bison.alias_pair l.aliases) (map models.level_of l.levels)) (map bison.rule_of l.rules) (map models.rule_of l.read)
