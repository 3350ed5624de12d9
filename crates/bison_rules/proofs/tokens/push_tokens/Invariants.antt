-- The tokens so far, and those that the other bytes give.
use Rattle.std.proofs.Common.{◌≡◌, ◌++◌, drop, false}
use Rattle.bison_rules.specs.Pieces.{tokens_from}
use Rattle.bison_rules.specs.Models.{tokens_of}
use Rattle.bison_rules.proofs.tokens.push_tokens.Given as goal

abbrev pub invariant-bytes : goal.invariant-bytes
invariant-bytes l = tokens_of l.tokens.items ++ tokens_from l.skipped l.has_rules (drop l.i l.text) ≡ tokens_of l.fn.tokens.items ++ tokens_from 0 false l.text
