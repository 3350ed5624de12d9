use Rattle.std.proofs.Common.{List, ℕ, ◌++◌, string_bytes, codes, ap, ◌∙◌, append_assoc}
use Rattle.report_forms.specs.DotTexts.{label}
use Rattle.report_forms.proofs.dot.push_contest_end.Goals as goal

pub returns : goal.returns
returns c =
    let old = string_bytes c.args.text.now in
    let tokens = c.as_str.ensures.value ∙ c.in_ok-line.ensures in
    let before = c.in_ok-push_label.ensures ∙ ap (λ (l : List ℕ). old ++ label l) tokens in
    c.in_ok-push_str.ensures.bytes ∙ ap (λ (l : List ℕ). l ++ codes "\\l\", color=red, fontcolor=red]\n") before ∙ append_assoc old _ _
