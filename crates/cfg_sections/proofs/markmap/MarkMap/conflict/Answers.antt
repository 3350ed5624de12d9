use Rattle.cfg_sections.proofs.MarkMapIterators.{conflicts_step}
use Rattle.cfg_sections.proofs.markmap.MarkMap.conflict.Goals as goal

pub keys-preserved : goal.keys-preserved
keys-preserved g c =
    conflicts_step g.K.Ord.cmp c.args.self.now c.args.other.now c.in-Some.key.now c.keys.key-iterator c.next.new.self c.keys.invariant c.in-Some.ensures.steps c.if-conflicts_at.ensures
