-- What the tokens so far declare, and what the others do.
use Rattle.std.proofs.Common.{◌≡◌, ◌++◌, drop, map}
use Rattle.bison_rules.specs.Rules.{levels}
use Rattle.bison_rules.specs.Models.{level_of, tokens_of}
use Rattle.bison_rules.proofs.reading.push_levels.Given as goal

abbrev pub invariant-tokens : goal.invariant-tokens
invariant-tokens l = map level_of l.levels.items ++ levels (tokens_of (drop l.i l.tokens)) ≡ map level_of l.fn.levels.items ++ levels (tokens_of l.tokens)
