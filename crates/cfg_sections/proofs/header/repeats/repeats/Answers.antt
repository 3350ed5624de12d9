use Rattle.std.proofs.Common.{sym, ◌∙◌, refl}
use Rattle.std.specs.Prelude.{map}
use Rattle.cfg_sections.specs.SectionResults.{pair_text}
use Rattle.cfg_sections.proofs.RepeatLists.{spans_text, earlier_more, later_more, left_more, told_more}
use Rattle.cfg_sections.proofs.header.repeats.repeats.Goals as goal

pub pairs-init : goal.pairs-init
pairs-init c = record { left = λ q. c.in_ok-spans.ensures q ∙ sym (spans_text q c.args.pairs.now); told = rw c.new-repeats.ensures.items refl }

pub pairs-preserved : goal.pairs-preserved
pairs-preserved c =
    let pairs = c.args.pairs.now in
    let i = c.pairs.pair-index in
    let p = c.pair-item.result in
    let taken = rw c.as_str.ensures.value at c.take_spans-of_key.ensures.taken in
    let left = rw c.as_str.ensures.value at c.take_spans-of_key.ensures.left in
    let told = rw (later_more pairs i p c.pairs-test.true c.pair-item.is) at c.pairs.invariant.told in
    rw (earlier_more pairs i p c.pairs-test.true c.pair-item.is)
    (record {
      left = λ q. left_more q (map pair_text _) (pair_text p) _ _ _ (left q) (c.pairs.invariant.left q);
      told = told_more (map pair_text pairs) (map pair_text _) (map pair_text _) (pair_text p) _ _ _ _ (taken ∙ c.pairs.invariant.left _) c.in_ok-push_repeat.ensures told;
    })
