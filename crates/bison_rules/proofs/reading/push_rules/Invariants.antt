-- The rules so far, and those of the other tokens.
use Rattle.std.proofs.Common.{◌≡◌, ◌++◌, drop, map}
use Rattle.bison_rules.specs.Rules.{rules}
use Rattle.bison_rules.specs.Models.{rule_of, tokens_of}
use Rattle.bison_rules.proofs.reading.push_rules.Given as goal

abbrev pub invariant-tokens : goal.invariant-tokens
invariant-tokens l = map rule_of l.rules.items ++ rules (tokens_of (drop l.i l.tokens)) ≡ map rule_of l.fn.rules.items ++ rules (tokens_of l.tokens)
