use Rattle.std.proofs.Common.{◌∙◌}
use Rattle.lrpar.proofs.builder.RTParserBuilder.parse_outline.Goals as goal

pub returns-clause-parsed : goal.returns-clause-parsed
returns-clause-parsed g c =
    let items = c.as_slice-items.ensures.value ∙ c.iter.ensures in
    rw (c.machine.ensures.grammar, c.machine.ensures.graph, c.machine.ensures.table, items) at c.parse_outline.ensures.parsed
