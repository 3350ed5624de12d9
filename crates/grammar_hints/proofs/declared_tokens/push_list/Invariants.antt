use Rattle.std.proofs.Common.{length, ◌-◌}
use Rattle.grammar_hints.proofs.declared_tokens.push_list.Given as goal

abbrev pub decreases-tokens : goal.decreases-tokens
decreases-tokens l = length l.text - l.end
