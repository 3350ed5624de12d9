use Rattle.std.proofs.Common.{◌||◌, Bool, List, false, length, ap, ◌∙◌, arith}
use Rattle.std.proofs.lemmas.List.{length-replicate}
use Rattle.vob.specs.Bits.{bitwise}
use Rattle.lrtable.proofs.MarkedSets.{or_clear}
use Rattle.lrtable.proofs.pager.overwrite.Goals as goal

pub or-requires : goal.or-requires
or-requires c =
    let made = ap length c.set_all.ensures.bits in
    let flags = length-replicate (length c.args.row.now.bits) false in
    let a = c.len.ensures in
    let b = c.len-2.ensures in
    let t = c.if-len.false in
    omega (arith, made, flags, a, b, t)

pub returns : goal.returns
returns c =
    let a = c.len.ensures in
    let b = c.len-2.ensures in
    let t = c.if-len.false in
    c.or.ensures.bits ∙ (ap (λ (l : List Bool). bitwise (λ x y. x || y) l c.args.looks.now.bits) c.set_all.ensures.bits ∙ or_clear c.args.row.now.bits c.args.looks.now.bits (omega (arith, a, b, t)))
