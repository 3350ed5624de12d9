use Rattle.cfg_sentences.specs.CostTable.{cost_of}
use Rattle.cfg_sentences.proofs.WantedSteps.{wants_none, not_given}
use Rattle.cfg_sentences.proofs.sentences.needed.want_by.Goals as goal

pub returns-then-not-gives_least-clause-wants : goal.returns-then-not-gives_least-clause-wants
returns-then-not-gives_least-clause-wants g c = wants_none c.args.least.now.grammar (cost_of c.args.least.now.costs) c.args.least.now.table c.args.wanted.now.bits c.args.work.now

pub returns-then-not-gives_least-clause-here : goal.returns-then-not-gives_least-clause-here
returns-then-not-gives_least-clause-here g c = not_given c.args.least.now.grammar (cost_of c.args.least.now.costs) c.args.least.now.table (g.S.IndexStorage.number c.args.pidx.0) c.args.wanted.now.bits c.gives_least.result c.if-not-gives_least.true c.gives_least.ensures

pub returns-clause-here : goal.returns-clause-here
returns-clause-here g c = λ wanted gives. c.in_ok-want_named.ensures.here
