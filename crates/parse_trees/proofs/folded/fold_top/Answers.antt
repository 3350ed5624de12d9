use Rattle.std.proofs.Common.{◌≡◌, ◌-◌, ◌++◌, ◌∷◌, [], length, take, drop, reverse, refl, ap, ◌∙◌, arith}
use Rattle.lr_theory.specs.StackValues.{reduction_span}
use Rattle.parse_trees.specs.Stacks.{spans_of}
use Rattle.parse_trees.proofs.SpanStacks.{ascend_reduced, start_reduced}
use Rattle.parse_trees.proofs.folded.fold_top.Goals as goal

pub returns-clause-folded : goal.returns-clause-folded
returns-clause-folded g c =
    let values = c.args.values.now in
    let spans = c.args.spans.now in
    let left : c.len.result - c.args.reduction.count ≡ length values.items - c.args.reduction.count = omega (arith, values.ok.0) in
    let under : c.len.result - c.args.reduction.count ≡ length spans.items - c.args.reduction.count = omega (arith, values.ok.0) in
    record {
      value = c.in_ok-value.value;
      place = c.reduced_span-span.result;
      span_is = c.reduced_span-span.ensures ∙ ap (λ l. reduction_span c.args.reduction.count (reverse (spans_of l))) c.as_slice.ensures.value;
      says_so = (c.args.reduction.pidx, c.args.reduction.ridx, c.reduced_span-span.result, c.in_ok-args.args, refl, refl, refl, c.in_ok-args.ensures.tail ∙ ap (λ k. drop k values.items) left, c.in_ok-value.ensures);
      values_are = c.in_ok-push.ensures.items ∙ ap (λ l. l ++ c.in_ok-value.value ∷ []) (c.in_ok-args.ensures.items ∙ ap (λ k. take k values.items) left);
      spans_are = c.in_ok-put_above.ensures ∙ ap (λ k. take k spans.items ++ c.reduced_span-span.result ∷ []) under;
    }

pub returns-clause-ascend : goal.returns-clause-ascend
returns-clause-ascend g c =
    let values = c.args.values.now in
    let spans = c.args.spans.now in
    let under : c.len.result - c.args.reduction.count ≡ length spans.items - c.args.reduction.count = omega (arith, values.ok.0) in
    let is = c.reduced_span-span.ensures ∙ ap (λ l. reduction_span c.args.reduction.count (reverse (spans_of l))) c.as_slice.ensures.value in
    rw (c.in_ok-put_above.ensures, under) (ascend_reduced spans.items c.args.reduction.count c.reduced_span-span.result c.requires.ascend (omega arith) is)

pub returns-clause-start : goal.returns-clause-start
returns-clause-start g c = λ m up.
    let values = c.args.values.now in
    let spans = c.args.spans.now in
    let under : c.len.result - c.args.reduction.count ≡ length spans.items - c.args.reduction.count = omega (arith, values.ok.0) in
    let is = c.reduced_span-span.ensures ∙ ap (λ l. reduction_span c.args.reduction.count (reverse (spans_of l))) c.as_slice.ensures.value in
    rw (c.in_ok-put_above.ensures, under) (start_reduced spans.items c.args.reduction.count c.reduced_span-span.result m up (omega arith) is)
