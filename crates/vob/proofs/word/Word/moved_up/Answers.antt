use Rattle.std.proofs.Common.{◌≤◌, ◌-◌, ◌++◌, false, sym, ap, ◌∙◌, arith, replicate, take}
use Rattle.vob.specs.Digits.{digits}
use Rattle.vob.proofs.Digit as digit
use Rattle.vob.proofs.word.Word.moved_up.Goals as goal

pub returns : goal.returns
returns g c =
    let n = g.Self.Word.number in
    let k = g.Self.Word.BITS in
    let law = g.met.Self.Word.number_law in
    let by : c.args.by ≤ k = omega arith in
    law c.shl_digits.result
    ∙ ap (digits k) c.shl_digits.ensures
    ∙ digit.digits-shl k c.args.by (n c.args.self) by
    ∙ ap (λ xs. replicate c.args.by false ++ take (k - c.args.by) xs) (sym (law c.args.self))
