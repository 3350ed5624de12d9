use Rattle.std.proofs.Common.{◌≡◌, sym, ap, ◌∙◌}
use Rattle.vob.specs.Digits.{digits}
use Rattle.vob.proofs.Digit as digit
use Rattle.vob.proofs.word.Word.is_same.Goals as goal

pub returns : goal.returns
returns g c =
    let k = g.Self.Word.BITS in
    let n = g.Self.Word.number in
    let a = c.args.self in
    let b = c.args.other in
    let law = g.met.Self.Word.number_law in (
      λ t. law a ∙ ap (digits k) (c.has_digits_of.ensures.0 t) ∙ sym (law b),
      λ h. c.has_digits_of.ensures.1 (digit.digits-injective k (n a) (n b) c.number_fits.ensures c.number_fits-2.ensures (sym (law a) ∙ h ∙ law b)),
    )
