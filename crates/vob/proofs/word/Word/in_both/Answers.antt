use Rattle.std.proofs.Common.{◌&&◌, sym, ap, ap₂, ◌∙◌}
use Rattle.vob.specs.Bits.{bitwise}
use Rattle.vob.specs.Digits.{digits}
use Rattle.vob.proofs.Digit as digit
use Rattle.vob.proofs.word.Word.in_both.Goals as goal

pub returns : goal.returns
returns g c =
    let n = g.Self.Word.number in
    let k = g.Self.Word.BITS in
    let law = g.met.Self.Word.number_law in
    law c.and_digits.result
    ∙ ap (digits k) c.and_digits.ensures
    ∙ digit.digits-and k (n c.args.self) (n c.args.other)
    ∙ ap₂ (bitwise (λ x y. x && y)) (sym (law c.args.self)) (sym (law c.args.other))
