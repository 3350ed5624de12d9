use Rattle.lrpar.proofs.parserdata.judge.Goals as goal

pub judge_chains-requires : goal.judge_chains-requires
judge_chains-requires g c =
    let safe = rw (c.in_default.is, c.stable.ensures) at c.in_ok-misfit.ensures in
    record { counts = safe.0; safe = safe.1 }

pub returns-in-Err-TooManyReductions : goal.returns-in-Err-TooManyReductions
returns-in-Err-TooManyReductions g c =
    let safe = rw (c.in_default.is, c.stable.ensures) at c.in_ok-misfit.ensures in
    (record { counts = safe.0; safe = safe.1 }, rw c.in-Err-TooManyReductions.field-0-is at c.in-Err-TooManyReductions.ensures.refused)
