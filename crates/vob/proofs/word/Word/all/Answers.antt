use Rattle.std.proofs.Common.{not, sym, ap, ◌∙◌, replicate, map}
use Rattle.vob.specs.Digits.{digits}
use Rattle.vob.proofs.Digit as digit
use Rattle.vob.proofs.word.Word.all.Goals as goal

pub returns-then-value : goal.returns-then-value
returns-then-value g c =
    let k = g.Self.Word.BITS in
    let none = g.met.Self.Word.number_law c.lowest-none.result ∙ ap (digits k) c.lowest-none.ensures ∙ digit.digits-zero k in
    c.turn_bits.ensures ∙ ap (map not) none ∙ digit.map_not-replicate k ∙ ap (replicate k) (sym c.if-value.true)

pub returns-else-value : goal.returns-else-value
returns-else-value g c =
    let k = g.Self.Word.BITS in
    g.met.Self.Word.number_law c.lowest-none.result ∙ ap (digits k) c.lowest-none.ensures ∙ digit.digits-zero k ∙ ap (replicate k) (sym c.if-value.false)
