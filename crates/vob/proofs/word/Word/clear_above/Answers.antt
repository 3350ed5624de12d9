use Rattle.std.proofs.Common.{◌≡◌, Bool, false, List, get_or, sym, ap, ◌∙◌}
use Rattle.vob.proofs.Digit as digit
use lib.Count.{count_leading_zeros}
use Rattle.vob.proofs.word.Word.clear_above.Goals as goal

pub returns-clause-after : goal.returns-clause-after
returns-clause-after g c =
    let k = g.Self.Word.BITS in
    let n = g.Self.Word.number c.args.self in
    let is : c.leading_digits.result ≡ count_leading_zeros k n = c.leading_digits.ensures.count in
    λ i h. ap (λ (xs : List Bool). get_or xs i false) (g.met.Self.Word.number_law c.args.self) ∙ (digit.leading-digits k n c.number_fits.ensures).0 i (rw is at h)

pub returns-clause-found : goal.returns-clause-found
returns-clause-found g c =
    let k = g.Self.Word.BITS in
    let n = g.Self.Word.number c.args.self in
    let is : c.leading_digits.result ≡ count_leading_zeros k n = c.leading_digits.ensures.count in
    λ i h. ap (λ (xs : List Bool). get_or xs i false) (g.met.Self.Word.number_law c.args.self) ∙ (digit.leading-digits k n c.number_fits.ensures).1 i (rw is at h)
