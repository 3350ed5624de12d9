use Rattle.std.proofs.Common.{◌<◌, length}
use Rattle.cfg_sentences.proofs.SettleSteps.{took_by, took_none}
use Rattle.cfg_sentences.proofs.sentences.bounded.take_out.Goals as goal

pub rules-preserved : goal.rules-preserved
rules-preserved c = took_by c.args.group.now c.rules.index c.args.set.now.bits c.rules.set.bits c.take_one.new.set.bits c.rules-test.true c.take_one.ensures.within c.take_one.ensures.past c.rules.invariant
