use Rattle.maximal_munch.proofs.OneMunch.{parts_follow}
use Rattle.maximal_munch.proofs.laws.parts_follow_one_another.Goals as goal

pub returns : goal.returns
returns c = λ v text ps e m. parts_follow v text ps e m
