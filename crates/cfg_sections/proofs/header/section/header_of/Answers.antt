use Rattle.std.proofs.Common.{refl}
use Rattle.cfg_sections.proofs.RepeatLists.{holds_more}
use Rattle.cfg_sections.proofs.header.section.header_of.Goals as goal

pub pairs-preserved : goal.pairs-preserved
pairs-preserved c = holds_more c.pairs.yielded c.in-Some.pair _ _ _ _ refl refl c.in_ok-put.ensures c.pairs.invariant
