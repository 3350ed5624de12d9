use Rattle.std.proofs.Common.{ap, ◌∙◌}
use Rattle.std.specs.Prelude.{slice_get}
use Rattle.state_table.proofs.SpreadSteps.{told_if}
use Rattle.state_table.proofs.dense_rows.spread_at.Goals as goal

pub returns : goal.returns
returns g c = told_if c.args.spreads.now c.args.s c.args.number c.row_of.result.now c.place_in.result c.row_of.ensures (c.place_in.ensures ∙ ap (λ l. slice_get l c.args.number) c.as_slice.ensures.value)
