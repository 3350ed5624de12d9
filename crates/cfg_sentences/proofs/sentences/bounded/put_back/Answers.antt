use Rattle.std.proofs.Common.{sym, ◌∙◌}
use Rattle.cfg_sentences.proofs.SettleSteps.{none_there}
use Rattle.cfg_sentences.proofs.sentences.bounded.put_back.Goals as goal

pub returns-in-None-clause-back : goal.returns-in-None-clause-back
returns-in-None-clause-back c = λ _. none_there c.args.set.now.bits c.args.rule (sym c.get.ensures ∙ c.in-None.is)
