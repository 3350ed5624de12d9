use Rattle.maximal_munch.proofs.OneMunch.{parts_lie_within}
use Rattle.maximal_munch.proofs.laws.parts_lie_within_their_text.Goals as goal

pub returns : goal.returns
returns c = λ v text ps e m. parts_lie_within v text ps e m
