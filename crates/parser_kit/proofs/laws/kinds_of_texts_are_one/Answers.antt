use Rattle.parser_kit.proofs.TextKinds.{one_kind_of}
use Rattle.parser_kit.proofs.laws.kinds_of_texts_are_one.Goals as goal

pub returns : goal.returns
returns c = one_kind_of c.one_kind.ensures.kinds c.one_kind.ensures.apart
