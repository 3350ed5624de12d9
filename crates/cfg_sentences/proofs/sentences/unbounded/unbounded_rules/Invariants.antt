use Rattle.std.proofs.Common.{◌≡◌, ℕ, length}
use Rattle.cfg_theory.specs.Greatest.{IsBoundedBy}
use Rattle.cfg_sentences.specs.CostTable.{cost_of}
use Rattle.vob.specs.Sets.{is_set}
use Rattle.cfg_sentences.specs.Greatest.{AreOut, held}
use Rattle.cfg_sentences.proofs.sentences.unbounded.unbounded_rules.Given as goal

abbrev pub invariant-rounds : goal.invariant-rounds
invariant-rounds g l = record {
  width : length l.kept.bits ≡ l.costly.grammar.rules;
  bounded : (n : ℕ) × IsBoundedBy l.costly.grammar (cost_of l.costly.costs) (is_set l.kept.bits) n;
  out : AreOut l.costly.grammar (cost_of l.costly.costs) l.costly.table l.kept.bits;
}

abbrev pub decreases-rounds : goal.decreases-rounds
decreases-rounds g l = held l.kept.bits
