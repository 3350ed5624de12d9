use Rattle.vob.proofs.LawLemmas as law
use Rattle.vob.proofs.laws.set_or_unset.Goals as goal

pub returns : goal.returns
returns c = law.one_of_both
