-- The alternatives so far, and those of the other tokens.
use Rattle.std.proofs.Common.{◌≡◌, ◌++◌, drop, map}
use Rattle.bison_rules.specs.Rules.{more_bodies}
use Rattle.bison_rules.specs.Models.{body_of, tokens_of}
use Rattle.bison_rules.proofs.reading.push_bodies.Given as goal

abbrev pub invariant-tokens : goal.invariant-tokens
invariant-tokens l = map body_of l.bodies.items ++ more_bodies (tokens_of (drop l.i l.tokens)) ≡ map body_of l.fn.bodies.items ++ more_bodies (tokens_of l.tokens)
