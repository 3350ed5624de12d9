use Rattle.std.proofs.lemmas.List.{take_rest}
use Rattle.lrkit_c.proofs.reading.behind.Goals as goal

pub returns : goal.returns
returns c = take_rest c.args.lexemes.now c.args.index
