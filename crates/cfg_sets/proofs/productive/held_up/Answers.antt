use Rattle.cfg_sets.proofs.Searches.{tells_hold}
use Rattle.cfg_sets.proofs.productive.held_up.Goals as goal

pub returns-in-None : goal.returns-in-None
returns-in-None g c = tells_hold c.args.grm.now.grammar c.args.found.now.bits (g.S.IndexStorage.number c.args.pidx.0) c.held_from-in-None.result c.held_from-in-None.ensures.some c.held_from-in-None.ensures.none
