-- The tokens so far, and what the others become.
use Rattle.std.proofs.Common.{◌≡◌, ◌++◌, drop}
use Rattle.bison_rules.specs.Rules.{with_heads}
use Rattle.bison_rules.specs.Models.{tokens_of}
use Rattle.bison_rules.proofs.reading.push_heads.Given as goal

abbrev pub invariant-tokens : goal.invariant-tokens
invariant-tokens l = tokens_of l.out.items ++ with_heads (tokens_of (drop l.i l.tokens)) ≡ tokens_of l.fn.out.items ++ with_heads (tokens_of l.tokens)
