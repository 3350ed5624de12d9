use Rattle.std.proofs.Common.{List, false, below_more, sym, subst, arith}
use Rattle.std.specs.Prelude.{Bool, IsTrue, slice_index_or}
use Rattle.std.proofs.lemmas.List.{length-map}
use Rattle.vob.specs.Packed.{Contents}
use Rattle.lrtable.proofs.Shared.{row_of}
use Rattle.lrtable.proofs.weak_compatibility.is_in_each.Goals as goal

pub each-preserved : goal.each-preserved
each-preserved c =
    let here = row_of c.args.looks.now c.each.i c.index-looks-i.result c.each-test.true c.index-looks-i.is in
    below_more _ _ c.each.invariant (subst (λ (l : List Bool). IsTrue (slice_index_or l c.args.token false)) (sym here) (c.is_in.ensures c.if-not-is_in.false))

pub returns : goal.returns
returns c = λ _ i lt. c.each.invariant i (let h = c.each-test.false in let n = length-map c.args.looks.now (λ (v : Contents). v.bits) in omega (arith, h, n, lt))
