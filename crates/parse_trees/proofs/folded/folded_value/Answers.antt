use Rattle.std.proofs.Common.{Some, length, ap, ◌∙◌, arith}
use Rattle.parse_trees.proofs.Folding.{value_alone, last_alone}
use Rattle.parse_trees.proofs.folded.folded_value.Goals as goal

pub returns : goal.returns
returns g c = λ G t h.
    let values = c.args.folded.values in
    let one = value_alone _ _ G _ _ values.items c.args.folded.spans.items t h in
    let len = ap length one.1 in
    (one.0, c.pop.ensures.value one.0 (omega (arith, len, values.ok.0)) ∙ ap Some (last_alone values.items _ one.0 one.0 one.1 (omega (arith, values.ok.0))), one.2)
