-- The pairs so far are the same, and so all are if the others are.
use Rattle.std.proofs.Common.{◌≡◌, drop, map}
use Rattle.checked_import.specs.Spelling.{all_pairs}
use Rattle.checked_import.specs.SameRules as spec
use Rattle.bison_rules.specs.Models as bison
use Rattle.cfg_read.specs.SyntaxModels as models
use Rattle.checked_import.proofs.matching.same_symbols.Given as goal

abbrev pub invariant-symbols : goal.invariant-symbols
invariant-symbols l = all_pairs (spec.same_symbol (map bison.alias_pair l.aliases)) (map bison.bytes_of (drop l.i l.symbols)) (map models.symbol_of (drop l.i l.read)) ≡ all_pairs (spec.same_symbol (map bison.alias_pair l.aliases)) (map bison.bytes_of l.symbols) (map models.symbol_of l.read)
