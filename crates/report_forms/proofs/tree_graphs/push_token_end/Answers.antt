use Rattle.std.proofs.Common.{List, ℕ, ◌++◌, string_bytes, codes, ap, ◌∙◌, append_assoc}
use Rattle.report_forms.specs.DotTexts.{label}
use Rattle.report_forms.proofs.tree_graphs.push_token_end.Goals as goal

pub returns : goal.returns
returns c =
    let old = string_bytes c.args.text.now in
    let front = codes "\\n" in
    let end = codes "\", shape=plaintext]\n" in
    let part = label c.args.part.now in
    let before = c.in_ok-push_label.ensures ∙ ap (λ (l : List ℕ). l ++ part) c.in_ok-push_str.ensures.bytes in
    c.in_ok-push_str-2.ensures.bytes ∙ ap (λ (l : List ℕ). l ++ end) before ∙ append_assoc (old ++ front) part end ∙ append_assoc old front (part ++ end)
