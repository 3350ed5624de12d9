use Rattle.vob.proofs.LawLemmas as law
use Rattle.vob.proofs.laws.set_changes_the_list.Goals as goal

pub returns : goal.returns
returns c = law.set_changes
