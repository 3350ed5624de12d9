use Rattle.std.proofs.Common.{◌≡◌, ◌-◌, ◌^◌, ◌≤◌, length, sym, ap, ap₂, ◌∙◌, arith, take, min}
use Rattle.std.specs.List.{flat_map}
use Rattle.vob.proofs.Pack as pack
use Rattle.vob.proofs.Walks as walks
use Rattle.vob.specs.Walk.{indices_of}
use Rattle.std.specs.Range.Bound.{start_index, end_index}
use Rattle.vob.proofs.Vob.indices.Goals as goal

pub returns : goal.returns
returns g c =
    let bits = g.T.Word.bits in
    let w = g.T.Word.BITS in
    let some = g.met.T.Word.some_law in
    let each = pack.width_of bits w g.T.Word.number g.met.T.Word.number_law in
    let n = c.self.inside.len in
    let all = flat_map bits c.self.inside.blocks.items in
    let v = c.args.value in
    let start = g.R.RangeBounds.start_bound c.args.range in
    let end = g.R.RangeBounds.end_bound c.args.range in
    let view : take n all ≡ c.args.self.now.bits = ap (λ b. b.bits) c.self.view_is in
    let len : length c.args.self.now.bits ≡ n = ap length (sym view) ∙ pack.length_kept w n all some c.self.invariant in
    let from : c.first_of-from.result ≡ min (start_index start) (2 ^ 64 - 1) = c.first_of-from.ensures ∙ ap (λ b. min (start_index b) (2 ^ 64 - 1)) (c.start_bound.ensures c.requires) in
    let to : c.end_of-to.result ≡ min (end_index end n) n = c.end_of-to.ensures ∙ ap (λ b. min (end_index b n) n) (c.end_bound.ensures c.requires) in
    let m = min (end_index end n) n in
    let low : m ≤ n = omega arith in
    c.new.ensures
    ∙ ap (λ xs. indices_of v (flat_map bits xs) c.first_of-from.result c.end_of-to.result) c.as_slice.ensures.value
    ∙ ap₂ (λ i j. indices_of v all i j) from to
    ∙ walks.cut_start v all (start_index start) m (2 ^ 64 - 1) (omega arith)
    ∙ sym (walks.indices_kept v all n (start_index start) m low)
    ∙ ap₂ (λ xs k. indices_of v xs (start_index start) (min (end_index end k) k)) view (sym len)
