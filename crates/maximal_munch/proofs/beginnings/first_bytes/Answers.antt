use Rattle.std.proofs.lemmas.Result.{IfOk-weaker}
use Rattle.maximal_munch.proofs.BeginningLemmas.{begins_of}
use Rattle.maximal_munch.proofs.beginnings.first_bytes.Goals as goal

pub returns : goal.returns
returns c =
    IfOk-weaker _ _ _
    (begins_of c.args.regex.now c.as_str.result.now c.args.config.now c.in-Some.nfa c.requires.config c.as_str.ensures c.requires.read c.in-Some.ensures)
    c.first_level.ensures
