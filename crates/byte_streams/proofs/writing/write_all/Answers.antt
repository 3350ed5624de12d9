use Rattle.std.proofs.Common.{◌<◌, ◌++◌, ◌∙◌, arith, take}
use Rattle.std.proofs.KnownBytes.{Appends-trans, Appends-kept}
use Rattle.byte_streams.proofs.Written.{moves_front, beginning}
use Rattle.byte_streams.proofs.writing.write_all.Goals as goal

pub returns-in-Ok-eq0-clause-err : goal.returns-in-Ok-eq0-clause-err
returns-in-Ok-eq0-clause-err g c =
    let (done, split, appended, counted) = c.writes.invariant in
    let rest = c.writes.rest.now in
    let n = c.in-Ok-eq0.field-0 in
    beginning _ _ c.args.bytes.now (done ++ take n rest) _ (moves_front c.args.bytes.now done rest n split) (Appends-trans _ _ _ done (take n rest) appended c.in-Ok-eq0.ensures.1)

pub writes-preserved : goal.writes-preserved
writes-preserved g c =
    let (done, split, appended, counted) = c.writes.invariant in
    let rest = c.writes.rest.now in
    (done ++ take c.in-Ok.n rest, moves_front c.args.bytes.now done rest c.in-Ok.n split, Appends-trans _ _ _ done (take c.in-Ok.n rest) appended c.in-Ok.ensures.1, (let h : 0 < c.in-Ok.n = omega arith in c.in-Ok.ensures.2.moved h ∙ counted))

pub returns-in-Err-clause-err : goal.returns-in-Err-clause-err
returns-in-Err-clause-err g c =
    let (done, split, appended, counted) = c.writes.invariant in
    beginning _ _ c.args.bytes.now done c.writes.rest.now split (Appends-kept _ _ _ done appended c.in-Err.ensures.0)
