use Rattle.std.proofs.Common.{◌≡◌, length, ap, ◌∙◌, arith}
use Rattle.vob.specs.Bits.{bitwise, differs}
use Rattle.vob.specs.Digits.{digits}
use Rattle.vob.proofs.Digit as digit
use Rattle.vob.proofs.word.Word.with_digit.Goals as goal

pub returns : goal.returns
returns g c =
    let k = g.Self.Word.BITS in
    let some = g.met.Self.Word.some_law in
    let law = g.met.Self.Word.number_law in
    let xs = g.Self.Word.bits c.args.self in
    let n : length xs ≡ k = ap length (law c.args.self) ∙ digit.length-digits k (g.Self.Word.number c.args.self) in
    let one = law c.lowest.result ∙ ap (digits k) c.lowest.ensures ∙ digit.digits-one k some in
    c.in_one.ensures ∙ ap (bitwise differs xs) c.moved_up.ensures ∙ digit.flipped_to k c.args.index xs (g.Self.Word.bits c.lowest.result) c.args.value n (omega arith) one (λ h. digit.beq-false c.digit.result c.args.value c.if-digit-value.false (c.digit.ensures ∙ h))
