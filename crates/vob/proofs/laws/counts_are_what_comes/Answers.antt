use Rattle.std.proofs.Common.{ap, length, ◌∙◌, arith}
use Rattle.vob.proofs.LawLemmas as law
use Rattle.vob.proofs.laws.counts_are_what_comes.Goals as goal

pub returns : goal.returns
returns c = record {
  front = λ s xs d. let e = d.1 in law.drained xs s e.0 d.0 e.1 e.2;
  back = λ s xs d. let e = d.1 in law.drained_back xs s e.0 d.0 e.1 e.2;
  after_next = λ s t index e. ap length e ∙ (omega arith);
  after_next_back = λ s t index e. law.one_less s t index e;
}
