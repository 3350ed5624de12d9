use Rattle.lrkit.proofs.OneOutput.{one_output}
use Rattle.lrkit.proofs.laws.outputs_are_one.Goals as goal

pub returns : goal.returns
returns c = one_output c.kinds_of_texts_are_one.ensures c.kits_of_texts_are_one.ensures c.kits_of_texts_parse_alike.ensures
