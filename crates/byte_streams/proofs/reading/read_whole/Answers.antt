use Rattle.std.proofs.Common.{arith}
use Rattle.std.proofs.lemmas.Result.{err_from_is_err_and}
use Rattle.byte_streams.proofs.ReadSoFar.{TakesAtMost-more, IsInputFault-from_read}
use Rattle.byte_streams.proofs.reading.read_whole.Goals as goal

pub returns-in_err-read_more-clause-took : goal.returns-in_err-read_more-clause-took
returns-in_err-read_more-clause-took g c = TakesAtMost-more _ _ _ _ _ _ c.reads.invariant.consumed c.in_err-read_more.ensures.took (omega arith)

pub returns-in_err-read_more-clause-cause : goal.returns-in_err-read_more-clause-cause
returns-in_err-read_more-clause-cause g c =
    let p = err_from_is_err_and c.from_residual.result c.from_residual.ensures.1 in
    rw (p.1, p.2) (IsInputFault-from_read _ _ _ _ _ c.reads.invariant.counted c.in_err-read_more.ensures.cause)
