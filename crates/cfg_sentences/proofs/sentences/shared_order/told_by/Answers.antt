use Rattle.std.proofs.Common.{◌<◌, arith}
use Rattle.cfg_sentences.proofs.TurnSteps.{less_told}
use Rattle.cfg_sentences.proofs.sentences.shared_order.told_by.Goals as goal

pub returns-then-left-right : goal.returns-then-left-right
returns-then-left-right g c =
    let x = c.to_usize-left.ensures.value in
    let y = c.to_usize-right.ensures.value in
    let lt = c.if-left-right.true in
    less_told (g.S.IndexStorage.number c.args.left.0) (g.S.IndexStorage.number c.args.right.0) (omega (arith, x, y, lt))

pub returns-then-right-left : goal.returns-then-right-left
returns-then-right-left g c =
    let x = c.to_usize-left.ensures.value in
    let y = c.to_usize-right.ensures.value in
    let lt = c.if-right-left.true in
    less_told (g.S.IndexStorage.number c.args.right.0) (g.S.IndexStorage.number c.args.left.0) (omega (arith, x, y, lt))
