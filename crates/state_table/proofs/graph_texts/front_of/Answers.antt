use Rattle.std.proofs.Common.{◌-◌, ◌++◌, length, ap, ◌∙◌}
use Rattle.std.specs.String.{string_bytes}
use Rattle.state_table.proofs.GraphTexts.{front_is}
use Rattle.state_table.proofs.graph_texts.front_of.Goals as goal

pub returns : goal.returns
returns c =
    let label = string_bytes c.in_ok-front.front in
    front_is c.args.width c.args.number c.saturating_sub.result label (string_bytes c.in_ok-filling.filling) (string_bytes c.push_str.new.self) c.in_ok-front.ensures.ok
    (c.saturating_sub.ensures ∙ ap (λ l. c.args.width - length l) c.as_str.ensures.value) c.in_ok-filling.ensures.bytes
    (c.in_ok-push_str.ensures.bytes ∙ ap (λ l. label ++ l) c.as_str-2.ensures.value)
