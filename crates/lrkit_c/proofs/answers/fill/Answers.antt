use Rattle.std.proofs.Common.{length, ◌∙◌, refl, arith, length-set}
use Rattle.std.proofs.lemmas.Option.{slice_get_read}
use Rattle.lrkit_c.proofs.Fronts.{stores_next}
use Rattle.lrkit_c.proofs.answers.fill.Goals as goal

pub each-preserved : goal.each-preserved
each-preserved g c =
    let i = c.each.index in let from = c.args.from.now in let x = c.index-from-index.result in
    let got = slice_get_read from (length from) i x refl c.each-test.true c.index-from-index.is in (
      stores_next i _ from c.args.out.now c.each.out x x got (omega (arith, c.each-test.true, c.requires)) c.each.invariant.0 (omega arith) refl,
      length-set c.each.out i x ∙ c.each.invariant.1,
    )
