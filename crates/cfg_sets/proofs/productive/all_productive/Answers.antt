use Rattle.cfg_sets.proofs.Searches.{tells_each}
use Rattle.cfg_sets.proofs.productive.all_productive.Goals as goal

pub returns : goal.returns
returns g c = tells_each c.productive_tables_are_exact.ensures c.args.grm.now.grammar c.run.new.self c.in_ok-run.ensures.search c.in_ok-run.ensures.looked_at c.has_all.result c.has_all.ensures
