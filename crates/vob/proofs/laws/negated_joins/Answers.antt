use Rattle.vob.proofs.LawLemmas as law
use Rattle.vob.proofs.laws.negated_joins.Goals as goal

pub returns : goal.returns
returns c = record { and = law.turned_and; or = law.turned_or }
