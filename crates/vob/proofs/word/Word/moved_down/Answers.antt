use Rattle.std.proofs.Common.{◌≤◌, ◌++◌, false, sym, ap, ◌∙◌, arith, replicate, drop}
use Rattle.vob.specs.Digits.{digits}
use Rattle.vob.proofs.Digit as digit
use Rattle.vob.proofs.word.Word.moved_down.Goals as goal

pub returns : goal.returns
returns g c =
    let n = g.Self.Word.number in
    let k = g.Self.Word.BITS in
    let law = g.met.Self.Word.number_law in
    let by : c.args.by ≤ k = omega arith in
    law c.shr_digits.result
    ∙ ap (digits k) c.shr_digits.ensures
    ∙ digit.digits-shr k c.args.by (n c.args.self) by c.number_fits.ensures
    ∙ ap (λ xs. drop c.args.by xs ++ replicate c.args.by false) (sym (law c.args.self))
