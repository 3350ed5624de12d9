use Rattle.lrpar.proofs.BuiltPairs.{built_is_safe}
use Rattle.lrpar.proofs.parserdata.ParserData.of_builder.Goals as goal

pub judge_chains-requires : goal.judge_chains-requires
judge_chains-requires g c = rw c.in_ok-full.ensures (built_is_safe c.args.grm c.args.sgraph c.args.stable c.start_prod.ensures.well_formed c.requires)

pub returns-in-Ok-clause-chains : goal.returns-in-Ok-clause-chains
returns-in-Ok-clause-chains g c = rw c.in_ok-full.ensures at (c.in-Ok.ensures.checked.chains c.args.sgraph)

pub returns-in-Err-clause-refused : goal.returns-in-Err-clause-refused
returns-in-Err-clause-refused g c = rw c.in_ok-full.ensures at c.in-Err.ensures.refused
