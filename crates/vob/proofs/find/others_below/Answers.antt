use Rattle.std.proofs.Common.{◌≡◌, ℕ, ◌+◌, ◌-◌, ◌<◌, ◌≤◌, false, not, ◌++◌, get_or, sym, subst, replicate, take}
use Rattle.vob.proofs.Pack as pack
use Rattle.vob.proofs.Walks as walks
use Rattle.vob.proofs.find.others_below.Goals as goal

pub returns-clause-after : goal.returns-clause-after
returns-clause-after g c =
    let bits = g.T.Word.bits in
    let w = g.T.Word.BITS in
    let some = g.met.T.Word.some_law in
    let each = pack.width_of bits w g.T.Word.number g.met.T.Word.number_law in
    let z = c.clear_above-zeros.result in
    let p = c.args.index in
    let xs = bits c.args.block in
    let moved = subst (λ b. bits c.moved_up.result ≡ replicate (b - p) false ++ take (w - (b - p)) (bits c.matching.result)) c.BITS.ensures c.moved_up.ensures in
    subst (λ r. (i : ℕ) → p ≤ i + r → i < p → get_or xs i false ≡ not c.args.value) (sym c.min.ensures)
    (walks.below_after w p z c.args.value xs (bits c.matching.result) (bits c.moved_up.result) (each c.args.block) c.requires.some c.requires.within c.matching.ensures moved c.clear_above-zeros.ensures.after)

pub returns-clause-found : goal.returns-clause-found
returns-clause-found g c =
    let bits = g.T.Word.bits in
    let w = g.T.Word.BITS in
    let some = g.met.T.Word.some_law in
    let each = pack.width_of bits w g.T.Word.number g.met.T.Word.number_law in
    let z = c.clear_above-zeros.result in
    let p = c.args.index in
    let xs = bits c.args.block in
    let moved = subst (λ b. bits c.moved_up.result ≡ replicate (b - p) false ++ take (w - (b - p)) (bits c.matching.result)) c.BITS.ensures c.moved_up.ensures in
    subst (λ r. (i : ℕ) → i + r + 1 ≡ p → get_or xs i false ≡ c.args.value) (sym c.min.ensures)
    (walks.below_found w p z c.args.value xs (bits c.matching.result) (bits c.moved_up.result) (each c.args.block) c.requires.some c.requires.within c.matching.ensures moved c.clear_above-zeros.ensures.found)
