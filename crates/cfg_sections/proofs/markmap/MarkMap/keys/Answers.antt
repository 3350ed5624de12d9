use Rattle.cfg_sections.proofs.MarkMapIterators.{each_key, sorted_among}
use Rattle.cfg_sections.proofs.markmap.MarkMap.keys.Goals as goal

pub returns-clause-ordered : goal.returns-clause-ordered
returns-clause-ordered g c = rw (← c.self.view_is) (sorted_among g.K.Ord.cmp c.self.inside.slots.entries c.iter.ensures.ordered)

pub returns-clause-each : goal.returns-clause-each
returns-clause-each g c = rw (← c.self.view_is) (λ q. each_key g.K.Ord.cmp g.met.K.Ord.total c.self.inside.slots.entries q c.iter.ensures.ordered)
