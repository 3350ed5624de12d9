use Rattle.vob.proofs.LawLemmas as law
use Rattle.vob.proofs.laws.an_ended_walk_stays_ended.Goals as goal

pub returns : goal.returns
returns c = record {
  front = λ s t u r e h. law.no_first t u r e.1 h;
  back = λ s t u r e h. law.no_last t u r e.1 h;
  from_back = λ s t u r e h. law.no_first t u r e.1 h;
  back_again = λ s t u r e h. law.no_last t u r e.1 h;
}
