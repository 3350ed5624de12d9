use Rattle.std.proofs.Common.{refl}
use Rattle.cfg_sets.proofs.Searches.{popped}
use Rattle.cfg_sets.proofs.productive.Search.run.Goals as goal

pub look_at_named-requires-clause-rule : goal.look_at_named-requires-clause-rule
look_at_named-requires-clause-rule g c =
    (popped c.args.grm.now.grammar c.takings.self (record { found = c.takings.self.found; hints = c.takings.self.hints; work = c.pop.new.self }) c.in-Some.rule c.takings.invariant.is_search refl refl c.in-Some.ensures.items).0

pub look_at_named-requires-clause-search : goal.look_at_named-requires-clause-search
look_at_named-requires-clause-search g c =
    (popped c.args.grm.now.grammar c.takings.self (record { found = c.takings.self.found; hints = c.takings.self.hints; work = c.pop.new.self }) c.in-Some.rule c.takings.invariant.is_search refl refl c.in-Some.ensures.items).1
