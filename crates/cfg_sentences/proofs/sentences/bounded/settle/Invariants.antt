use Rattle.std.proofs.Common.{◌≡◌, ◌≤◌, ℕ, length}
use Rattle.cfg_theory.specs.Greatest.{IsBoundedBy}
use Rattle.cfg_sentences.specs.CostTable.{cost_of}
use Rattle.vob.specs.Sets.{is_set}
use Rattle.cfg_sentences.specs.Greatest.{AreOut, Covers, held}
use Rattle.cfg_sentences.proofs.sentences.bounded.settle.Given as goal

abbrev pub invariant-rules : goal.invariant-rules
invariant-rules g l = record {
  seen : length l.seen.bits ≡ l.costly.grammar.rules;
  width : length l.set.bits ≡ l.costly.grammar.rules;
  rest_width : length l.rest.bits ≡ l.costly.grammar.rules;
  covers : Covers l.rest.bits l.set.bits;
  out : AreOut l.costly.grammar (cost_of l.costly.costs) l.costly.table l.set.bits;
  bounded : (n : ℕ) × IsBoundedBy l.costly.grammar (cost_of l.costly.costs) (is_set l.set.bits) n;
  less : held l.set.bits ≤ held l.initial.set.bits;
}
