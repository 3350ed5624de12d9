-- No symbol was there so far.
use Rattle.std.proofs.Common.{◌≡◌, drop, false}
use Rattle.bison_rules.specs.Rules.{goes_on}
use Rattle.bison_rules.specs.Models.{tokens_of}
use Rattle.bison_rules.proofs.reading.goes_on.Given as goal

abbrev pub invariant-tokens : goal.invariant-tokens
invariant-tokens l = goes_on l.after_prec (tokens_of (drop l.token-index l.tokens)) ≡ goes_on false (tokens_of l.tokens)
