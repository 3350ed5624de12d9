use Rattle.std.proofs.Common.{sym, ap, ◌∙◌}
use Rattle.vob.specs.Bits.{count_true}
use Rattle.vob.proofs.Digit as digit
use Rattle.vob.proofs.word.Word.set_count.Goals as goal

pub returns : goal.returns
returns g c =
    let k = g.Self.Word.BITS in
    let n = g.Self.Word.number c.args.self in
    c.count_digits.ensures ∙ sym (digit.count_true-digits k n c.number_fits.ensures) ∙ ap count_true (sym (g.met.Self.Word.number_law c.args.self))
