use Rattle.std.proofs.Common.{◌++◌, length, ap, ◌∙◌}
use Rattle.std.specs.Prelude.{codes}
use Rattle.std.specs.Fmt.{decimal}
use Rattle.std.specs.String.{string_bytes}
use Rattle.state_table.proofs.GraphTexts.{gap_is}
use Rattle.state_table.proofs.graph_texts.gap_of.Goals as goal

pub returns : goal.returns
returns c =
    gap_is c.args.count (length c.as_str.result.now) (string_bytes c.in_ok-widest.widest) (string_bytes c.in_ok-gap.gap) (c.in_ok-widest.ensures.ok ∙ ap (λ n. decimal n ++ codes ": ") c.saturating_sub-greatest.ensures)
    (ap length c.as_str.ensures.value) c.in_ok-gap.ensures.bytes
