use Rattle.maximal_munch.proofs.OneMunch.{one_way}
use Rattle.maximal_munch.proofs.laws.texts_munch_in_one_way.Goals as goal

pub returns-clause-parts : goal.returns-clause-parts
returns-clause-parts c = λ v text ps qs d e m m'. (one_way v m m').0

pub returns-clause-ending : goal.returns-clause-ending
returns-clause-ending c = λ v text ps qs d e m m'. (one_way v m m').1
