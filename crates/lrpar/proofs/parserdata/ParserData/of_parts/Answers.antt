use Rattle.lrpar.proofs.BuiltPairs.{no_misfit}
use Rattle.lrpar.proofs.parserdata.ParserData.of_parts.Goals as goal

pub returns-in-Unsafe-clause-of_builder : goal.returns-in-Unsafe-clause-of_builder
returns-in-Unsafe-clause-of_builder g c = λ is unsafe. no_misfit c.args.grm c.args.sgraph c.args.stable c.start_prod.ensures.well_formed is _ _ (rw c.in-Unsafe.is at c.in-Ok.ensures)

pub returns-in-Checked-clause-chains : goal.returns-in-Checked-clause-chains
returns-in-Checked-clause-chains g c = let checked = rw c.in-Checked.is at c.in-Ok.ensures in checked.chains c.args.sgraph
