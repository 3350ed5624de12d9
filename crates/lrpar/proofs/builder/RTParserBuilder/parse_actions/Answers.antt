use Rattle.std.proofs.Common.{◌∙◌}
use Rattle.lrpar.proofs.builder.RTParserBuilder.parse_actions.Goals as goal

pub returns-in-Ok-clause-parsed : goal.returns-in-Ok-clause-parsed
returns-in-Ok-clause-parsed g c =
    let items = c.as_slice-items.ensures.value ∙ c.iter.ensures in
    record {
      outcome = c.in_ok-outcome.outcome;
      comes_to = rw (c.machine.ensures.grammar, c.machine.ensures.graph, c.machine.ensures.table, items) at c.in_ok-outcome.ensures.parsed;
      hands_out = c.in-Ok.ensures;
    }
