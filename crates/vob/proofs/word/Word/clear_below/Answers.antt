use Rattle.std.proofs.Common.{◌≡◌, Bool, false, List, get_or, sym, ap, ap₂, ◌∙◌}
use Rattle.vob.proofs.Digit as digit
use lib.Count.{count_trailing_zeros}
use Rattle.vob.proofs.word.Word.clear_below.Goals as goal

pub returns-clause-before : goal.returns-clause-before
returns-clause-before g c =
    let k = g.Self.Word.BITS in
    let n = g.Self.Word.number c.args.self in
    let is : c.trailing_digits.result ≡ count_trailing_zeros k n = c.trailing_digits.ensures.count in
    λ i h. ap (λ (xs : List Bool). get_or xs i false) (g.met.Self.Word.number_law c.args.self) ∙ (digit.trailing-digits k n).0 i (rw is at h)

pub returns-clause-found : goal.returns-clause-found
returns-clause-found g c =
    let k = g.Self.Word.BITS in
    let n = g.Self.Word.number c.args.self in
    let is : c.trailing_digits.result ≡ count_trailing_zeros k n = c.trailing_digits.ensures.count in
    λ h. ap₂ (λ (xs : List Bool) i. get_or xs i false) (g.met.Self.Word.number_law c.args.self) is ∙ (digit.trailing-digits k n).1 (rw is at h)
