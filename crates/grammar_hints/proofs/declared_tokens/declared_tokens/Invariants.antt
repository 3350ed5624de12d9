use Rattle.std.proofs.Common.{length, ◌-◌}
use Rattle.grammar_hints.proofs.declared_tokens.declared_tokens.Given as goal

abbrev pub decreases-parts : goal.decreases-parts
decreases-parts l = length l.text - l.offset
