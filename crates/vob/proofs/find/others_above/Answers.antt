use Rattle.std.proofs.Common.{◌≡◌, ℕ, ◌+◌, ◌-◌, ◌<◌, ◌≤◌, false, not, get_or, sym, ap, ◌∙◌, subst, min}
use Rattle.vob.proofs.Pack as pack
use Rattle.vob.proofs.Walks as walks
use Rattle.vob.proofs.find.others_above.Goals as goal

pub returns-clause-before : goal.returns-clause-before
returns-clause-before g c =
    let bits = g.T.Word.bits in
    let w = g.T.Word.BITS in
    let some = g.met.T.Word.some_law in
    let each = pack.width_of bits w g.T.Word.number g.met.T.Word.number_law in
    let z = c.clear_below-zeros.result in
    let p = c.args.index in
    let xs = bits c.args.block in
    let e : c.min.result ≡ min z (w - p) = c.min.ensures ∙ ap (λ b. min z (b - p)) c.BITS.ensures in
    let moved = c.moved_down.ensures in
    subst (λ r. (i : ℕ) → p ≤ i → i < p + r → get_or xs i false ≡ not c.args.value) (sym e)
    (walks.above_before w p z c.args.value xs (bits c.matching.result) (bits c.moved_down.result) (each c.args.block) c.requires c.matching.ensures moved c.clear_below-zeros.ensures.before)

pub returns-clause-found : goal.returns-clause-found
returns-clause-found g c =
    let bits = g.T.Word.bits in
    let w = g.T.Word.BITS in
    let some = g.met.T.Word.some_law in
    let each = pack.width_of bits w g.T.Word.number g.met.T.Word.number_law in
    let z = c.clear_below-zeros.result in
    let p = c.args.index in
    let xs = bits c.args.block in
    let e : c.min.result ≡ min z (w - p) = c.min.ensures ∙ ap (λ b. min z (b - p)) c.BITS.ensures in
    let moved = c.moved_down.ensures in
    subst (λ r. p + r < w → get_or xs (p + r) false ≡ c.args.value) (sym e)
    (walks.above_found w p z c.args.value xs (bits c.matching.result) (bits c.moved_down.result) (each c.args.block) c.requires c.matching.ensures moved c.clear_below-zeros.ensures.found)
