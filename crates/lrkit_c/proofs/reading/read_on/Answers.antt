use Rattle.lrkit_c.proofs.Readings.{stops_there}
use Rattle.lrkit_c.proofs.reading.read_on.Goals as goal

pub returns-then-not-branch-clause-reads : goal.returns-then-not-branch-clause-reads
returns-then-not-branch-clause-reads c =
    stops_there c.args.prefix.now.parser c.args.prefix.now.tokens c.args.left.now c.behind.result.now c.lexemes.index c.index-left-index.result c.lexemes.prefix c.push.new.self c.lexemes-test.true c.index-left-index.is
    c.lexemes.invariant (c.in_ok-push.ensures.stays c.if-not-branch.true) (c.in_ok-push.ensures.error c.if-not-branch.true) c.behind.ensures
