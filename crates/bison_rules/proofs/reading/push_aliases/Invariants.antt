-- What the tokens so far declare, and what the others do.
use Rattle.std.proofs.Common.{◌≡◌, ◌++◌, drop, map}
use Rattle.bison_rules.specs.Rules.{aliases}
use Rattle.bison_rules.specs.Models.{alias_pair, tokens_of}
use Rattle.bison_rules.proofs.reading.push_aliases.Given as goal

abbrev pub invariant-tokens : goal.invariant-tokens
invariant-tokens l = map alias_pair l.aliases.items ++ aliases (tokens_of (drop l.i l.tokens)) ≡ map alias_pair l.fn.aliases.items ++ aliases (tokens_of l.tokens)
