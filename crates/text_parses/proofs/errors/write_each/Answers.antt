use Rattle.text_parses.proofs.ErrorsTold.{tells_next}
use Rattle.text_parses.proofs.errors.write_each.Goals as goal

pub errors-preserved : goal.errors-preserved
errors-preserved g c = tells_next c.args.shown.source.now c.args.shown.start c.args.errors.now c.errors.index c.index-errors-index.result (g.W.Sink.known c.args.out.now) (g.W.Sink.known c.errors.out) (g.W.Sink.known c.write_error.new.out) c.errors-test.true c.index-errors-index.is c.errors.invariant c.in_ok-write_error.ensures
