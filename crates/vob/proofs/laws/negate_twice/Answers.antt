use Rattle.vob.proofs.LawLemmas as law
use Rattle.vob.proofs.laws.negate_twice.Goals as goal

pub returns : goal.returns
returns c = law.turned_twice
