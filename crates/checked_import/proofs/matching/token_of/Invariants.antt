-- None of the aliases so far is for the symbol.
use Rattle.std.proofs.Common.{◌≡◌, drop, map}
use Rattle.bison_rules.specs.Models as bison
use Rattle.bison_rules.specs.Rules.{alias_of}
use Rattle.checked_import.proofs.matching.token_of.Given as goal

abbrev pub invariant-aliases : goal.invariant-aliases
invariant-aliases l = alias_of (map bison.alias_pair (drop l.alias-index l.aliases)) l.symbol ≡ alias_of (map bison.alias_pair l.aliases) l.symbol
