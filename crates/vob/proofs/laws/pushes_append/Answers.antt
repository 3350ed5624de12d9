use Rattle.vob.proofs.LawLemmas as law
use Rattle.vob.proofs.laws.pushes_append.Goals as goal

pub returns : goal.returns
returns c = law.pushed_all
