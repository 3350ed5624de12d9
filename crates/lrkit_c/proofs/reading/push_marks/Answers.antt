use Rattle.std.proofs.Common.{◌++◌, ap, ◌∙◌}
use Rattle.lrkit_c.specs.Marks.{error_marks}
use Rattle.lrkit_c.proofs.reading.push_marks.Goals as goal

pub returns : goal.returns
returns c =
    let made = c.as_slice-2.ensures.value ∙ c.in_ok-made.ensures ∙ ap (λ ts. error_marks ts c.args.error.now) c.as_slice.ensures.value in
    (c.in_ok-numbers.numbers.items, c.in_ok-numbers.ensures, c.in_ok-extend_from_slice.ensures.items ∙ ap (λ l. c.args.marks.now.items ++ l) made)
