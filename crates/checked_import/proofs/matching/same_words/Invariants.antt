-- The pairs so far are the same, and so all are if the others are.
use Rattle.std.proofs.Common.{◌≡◌, drop, map}
use Rattle.checked_import.specs.Spelling.{all_pairs}
use Rattle.checked_import.specs.SameRules as spec
use Rattle.bison_rules.specs.Models as bison
use Rattle.cfg_read.specs.SyntaxModels as models
use Rattle.checked_import.proofs.matching.same_words.Given as goal

abbrev pub invariant-starts : goal.invariant-starts
invariant-starts l = all_pairs spec.same_start (map bison.bytes_of (drop l.i l.starts)) (models.words_of (drop l.i l.read)) ≡ all_pairs spec.same_start (map bison.bytes_of l.starts) (models.words_of l.read)
