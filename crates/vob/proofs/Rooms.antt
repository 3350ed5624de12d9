-- Room for items in blocks, and the last item.
use Rattle.std.proofs.Common.{◌≡◌, ℕ, suc, ◌+◌, ◌*◌, ◌<◌, ◌≤◌, Bool, false, List, [], ◌∷◌, ◌++◌, length, get_or, take, sym, ap, ◌∙◌, arith}
use Rattle.std.proofs.Math.Seq.{take-suc}
use Rattle.vob.specs.Packed.{blocks_for}
use Rattle.vob.proofs.Pack as pack

-- where n items fit, there are their blocks
pub blocks_fit : (w n room : ℕ) → 0 < w → n ≤ room * w → blocks_for w n ≤ room
blocks_fit w n room h le =
    let e : room ≡ blocks_for w (room * w) = pack.blocks_for_unique w (room * w) room h (omega arith) (omega arith) in
    let m = pack.blocks_for-mono w n (room * w) h le in
    omega arith

-- where their blocks are, n items fit
pub items_fit : (w n room : ℕ) → 0 < w → blocks_for w n ≤ room → n ≤ room * w
items_fit w n room h le =
    let p = pack.blocks_for_is w n h in
    let q = pack.times_mono (blocks_for w n) room w le in
    omega arith

-- the last item, and those before it
pub taken_last : (n last : ℕ) (all : List Bool) (v : Bool) → n ≡ suc last → last < length all → v ≡ get_or all last false → take n all ≡ take last all ++ v ∷ []
taken_last n last all v e h is = ap (λ k. take k all) e ∙ take-suc all last false h ∙ ap (λ x. take last all ++ x ∷ []) (sym is)
