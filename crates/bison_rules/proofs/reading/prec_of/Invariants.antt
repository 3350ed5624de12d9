-- No token of a precedence was there so far.
use Rattle.std.proofs.Common.{◌≡◌, drop, false}
use Rattle.bison_rules.specs.Rules.{prec}
use Rattle.bison_rules.specs.Models.{tokens_of}
use Rattle.bison_rules.proofs.reading.prec_of.Given as goal

abbrev pub invariant-tokens : goal.invariant-tokens
invariant-tokens l = prec l.after_prec (tokens_of (drop l.token-index l.tokens)) ≡ prec false (tokens_of l.tokens)
