use Rattle.std.proofs.Common.{◌≡◌, Bool, false, List, length, get_or, sym, ap, ◌∙◌, arith, replicate}
use Rattle.vob.proofs.Digit as digit
use Rattle.vob.proofs.word.Word.digit.Goals as goal

pub returns : goal.returns
returns g c =
    let k = g.Self.Word.BITS in
    let xs = g.Self.Word.bits c.args.self in
    let n : length xs ≡ k = ap length (g.met.Self.Word.number_law c.args.self) ∙ digit.length-digits k (g.Self.Word.number c.args.self) in
    let ys = replicate c.args.index false in
    let e = c.moved_down.ensures in
    digit.first_is_set c.clear_below.result k c.args.index xs ys n (omega arith) g.met.Self.Word.some_law (λ i h. sym (ap (λ (zs : List Bool). get_or zs i false) e) ∙ c.clear_below.ensures.before i h) (λ h. sym (ap (λ (zs : List Bool). get_or zs c.clear_below.result false) e) ∙ c.clear_below.ensures.found h)
