-- What the tokens so far declare, and what the others do.
use Rattle.std.proofs.Common.{◌≡◌, ◌++◌, drop, map}
use Rattle.bison_rules.specs.Rules.{starts}
use Rattle.bison_rules.specs.Models.{bytes_of, tokens_of}
use Rattle.bison_rules.proofs.reading.push_starts.Given as goal

abbrev pub invariant-tokens : goal.invariant-tokens
invariant-tokens l = map bytes_of l.starts.items ++ starts (tokens_of (drop l.i l.tokens)) ≡ map bytes_of l.fn.starts.items ++ starts (tokens_of l.tokens)
