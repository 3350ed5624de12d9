use Rattle.std.proofs.Common.{[]}
use Rattle.lrkit_c.proofs.Readings.{errors_next}
use Rattle.lrkit_c.proofs.reading.push_errors.Goals as goal

pub errors-preserved : goal.errors-preserved
errors-preserved c =
    let (same, before) = c.errors.invariant in
    let (made, marked, more) = c.in_ok-left.ensures.marks in
    let next =
    errors_next c.args.parser.now c.args.errors.now c.errors.index c.index-errors-index.result (record { front = []; left = c.args.lexemes.now }) (record { front = c.errors.prefix.tokens; left = c.errors.left.now })
    (record { front = c.push_error.new.prefix.tokens; left = c.in_ok-left.left.now }) c.errors.marks.items made c.push_error.new.marks.items c.errors-test.true c.index-errors-index.is before marked more in
    (c.in_ok-left.ensures.parser, next)
