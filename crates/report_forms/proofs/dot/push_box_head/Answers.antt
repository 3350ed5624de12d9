use Rattle.std.proofs.Common.{List, ℕ, ◌++◌, string_bytes, ap, ◌∙◌}
use Rattle.report_forms.proofs.dot.push_box_head.Goals as goal

pub returns : goal.returns
returns c = c.in_ok-push_str.ensures.bytes ∙ ap (λ (l : List ℕ). string_bytes c.args.text.now ++ l) (c.as_str.ensures.value ∙ c.in_ok-head.ensures.ok)
