use Rattle.std.proofs.Common.{not, sym, ap, ◌∙◌, map}
use Rattle.vob.specs.Digits.{digits}
use Rattle.vob.proofs.Digit as digit
use Rattle.vob.proofs.word.Word.turn_bits.Goals as goal

pub returns : goal.returns
returns g c =
    let n = g.Self.Word.number in
    let k = g.Self.Word.BITS in
    let law = g.met.Self.Word.number_law in
    law c.not_digits.result
    ∙ ap (digits k) c.not_digits.ensures
    ∙ digit.digits-not k (n c.args.self) c.number_fits.ensures
    ∙ ap (map not) (sym (law c.args.self))
