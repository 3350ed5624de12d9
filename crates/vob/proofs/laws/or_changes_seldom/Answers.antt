use Rattle.vob.proofs.LawLemmas as law
use Rattle.vob.proofs.laws.or_changes_seldom.Goals as goal

pub returns : goal.returns
returns c = law.changes_seldom
