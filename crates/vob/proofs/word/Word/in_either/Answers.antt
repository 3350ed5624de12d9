use Rattle.std.proofs.Common.{◌||◌, sym, ap, ap₂, ◌∙◌}
use Rattle.vob.specs.Bits.{bitwise}
use Rattle.vob.specs.Digits.{digits}
use Rattle.vob.proofs.Digit as digit
use Rattle.vob.proofs.word.Word.in_either.Goals as goal

pub returns : goal.returns
returns g c =
    let n = g.Self.Word.number in
    let k = g.Self.Word.BITS in
    let law = g.met.Self.Word.number_law in
    law c.or_digits.result
    ∙ ap (digits k) c.or_digits.ensures
    ∙ digit.digits-or k (n c.args.self) (n c.args.other)
    ∙ ap₂ (bitwise (λ x y. x || y)) (sym (law c.args.self)) (sym (law c.args.other))
