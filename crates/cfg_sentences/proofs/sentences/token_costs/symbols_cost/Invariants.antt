use Rattle.std.proofs.Common.{◌-◌, length, drop}
use Rattle.cfg_numbered.specs.Symbols.{syms_of}
use Rattle.cfg_sentences.specs.CostTable.{IsCost}
use Rattle.cfg_sentences.proofs.sentences.token_costs.symbols_cost.Given as goal

abbrev pub invariant-back : goal.invariant-back
invariant-back g l = IsCost l.costs l.least (drop (length l.symbols - l.index) (syms_of g.S.IndexStorage.number l.symbols)) l.sum
