use Rattle.std.proofs.lemmas.List.{take-append-drop}
use Rattle.vob.proofs.laws.parts_join.Goals as goal

pub returns : goal.returns
returns c = λ xs at. take-append-drop at xs
