-- The aliases so far, and those of the other symbols.
use Rattle.std.proofs.Common.{◌≡◌, ◌++◌, drop, map}
use Rattle.bison_rules.specs.Rules.{pairs}
use Rattle.bison_rules.specs.Models.{alias_pair, bytes_of}
use Rattle.bison_rules.proofs.reading.push_pairs.Given as goal

abbrev pub invariant-symbols : goal.invariant-symbols
invariant-symbols l = map alias_pair l.aliases.items ++ pairs (map bytes_of (drop l.i l.symbols)) ≡ map alias_pair l.fn.aliases.items ++ pairs (map bytes_of l.symbols)
