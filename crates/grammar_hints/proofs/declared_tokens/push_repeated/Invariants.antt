use Rattle.grammar_hints.specs.Within.{AreWithin}
use Rattle.grammar_hints.proofs.declared_tokens.push_repeated.Given as goal

abbrev pub invariant-tokens : goal.invariant-tokens
invariant-tokens l = AreWithin l.text l.warnings.items
