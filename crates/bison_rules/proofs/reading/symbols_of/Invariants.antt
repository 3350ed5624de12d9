-- The symbols so far, and those of the other tokens.
use Rattle.std.proofs.Common.{◌≡◌, ◌++◌, drop, map, false}
use Rattle.bison_rules.specs.Rules.{symbols}
use Rattle.bison_rules.specs.Models.{bytes_of, tokens_of}
use Rattle.bison_rules.proofs.reading.symbols_of.Given as goal

abbrev pub invariant-tokens : goal.invariant-tokens
invariant-tokens l = map bytes_of l.out.items ++ symbols l.after_prec (tokens_of (drop l.token-index l.tokens)) ≡ symbols false (tokens_of l.tokens)
