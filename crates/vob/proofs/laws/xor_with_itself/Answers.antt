use Rattle.vob.proofs.LawLemmas as law
use Rattle.vob.proofs.laws.xor_with_itself.Goals as goal

pub returns : goal.returns
returns c = law.no_difference
