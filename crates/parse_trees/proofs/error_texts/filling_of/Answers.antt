use Rattle.std.proofs.Common.{◌-◌, length, ap, ◌∙◌}
use Rattle.std.specs.String.{string_bytes}
use Rattle.parse_trees.proofs.ErrorParts.{spaces_fill}
use Rattle.parse_trees.proofs.error_texts.filling_of.Goals as goal

pub returns : goal.returns
returns c =
    spaces_fill c.args.count c.saturating_sub-missing.result (length c.args.number.now) (string_bytes c.in_ok-widest.widest) (string_bytes c.in_ok-spaces.spaces) c.in_ok-widest.ensures.ok
    (c.saturating_sub-missing.ensures ∙ ap (λ l. length l - length c.args.number.now) c.as_str.ensures.value) c.in_ok-spaces.ensures.bytes
