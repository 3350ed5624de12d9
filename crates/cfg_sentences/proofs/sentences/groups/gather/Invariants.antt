use Rattle.std.proofs.Common.{◌≡◌, length}
use Rattle.cfg_sentences.proofs.sentences.groups.gather.Given as goal

abbrev pub invariant-turns : goal.invariant-turns
invariant-turns g l = length l.seen.bits ≡ l.costly.grammar.rules
