use Rattle.std.proofs.Common.{Bool, List, [], ◌∷◌, ◌++◌, take, sym, ap, ◌∙◌, arith}
use Rattle.std.proofs.lemmas.List.{map_more}
use Rattle.vob.specs.Packed.{Contents}
use Rattle.state_table.specs.Meeting.{rows_in}
use Rattle.lrtable.proofs.pager.copy_looks.Goals as goal

pub each-preserved : goal.each-preserved
each-preserved c =
    let looks = c.args.looks.now in
    let k = c.each.k in
    let v = c.index-looks-k.result in
    let within = c.in_ok-put_copy.ensures.within in
    let more = map_more (λ (w : Contents). w.bits) looks k v c.each-test.true ∙ ap (λ (w : Contents). rows_in (take k looks) ++ w.bits ∷ []) (sym c.index-looks-k.is) in
    record {
      within = omega (arith, within);
      copied = c.in_ok-put_copy.ensures.copied ∙ (ap (λ (l : List (List Bool)). l ++ v.bits ∷ []) c.each.invariant.copied ∙ sym more);
    }
