-- The rules of the actions so far are behind the others.
use Rattle.std.proofs.Common.{◌≡◌, ◌++◌}
use Rattle.bison_rules.specs.Rules.{action_rules}
use Rattle.bison_rules.specs.Models.{tokens_of}
use Rattle.bison_rules.proofs.reading.push_action_rules.Given as goal

abbrev pub invariant-actions : goal.invariant-actions
invariant-actions l = tokens_of l.out.items ≡ tokens_of l.fn.out.items ++ action_rules l.before
