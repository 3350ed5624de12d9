use Rattle.std.proofs.Common.{◌≡◌, Some, length, sym, ap, ◌∙◌, subst}
use Rattle.std.specs.Prelude.{slice_get}
use Rattle.state_table.specs.Rows.{Rises, Below}
use Rattle.state_table.specs.SpreadRows.{IsSpread, AreSpread}
use Rattle.state_table.proofs.SpreadSteps.{rows_more, rows_count}
use Rattle.state_table.proofs.dense_rows.spread_rows.Goals as goal

pub spread_if_long-requires-clause-rises : goal.spread_if_long-requires-clause-rises
spread_if_long-requires-clause-rises g c = subst (λ l. Rises l) (sym c.as_slice.ensures.value) (c.requires c.rows.s c.row_of.result.now c.row_of.ensures).0

pub spread_if_long-requires-clause-below : goal.spread_if_long-requires-clause-below
spread_if_long-requires-clause-below g c = subst (λ l. Below c.args.count l) (sym c.as_slice.ensures.value) (c.requires c.rows.s c.row_of.result.now c.row_of.ensures).1

pub rows-preserved : goal.rows-preserved
rows-preserved g c =
    let count = c.rows.invariant.count in
    let at : slice_get c.args.rows.now (length c.rows.spreads.items) ≡ Some c.row_of.result.now = ap (slice_get c.args.rows.now) count ∙ c.row_of.ensures in
    let is : IsSpread c.row_of.result.now.items c.in_ok-spread.spread.items = subst (λ l. IsSpread l c.in_ok-spread.spread.items) c.as_slice.ensures.value c.in_ok-spread.ensures in
    record {
      count = ap length c.in_ok-push.ensures.items ∙ rows_count c.rows.spreads.items c.in_ok-spread.spread c.rows.s count;
      are = subst (λ l. AreSpread c.args.rows.now l) (sym c.in_ok-push.ensures.items) (rows_more c.args.rows.now c.rows.spreads.items c.row_of.result.now c.in_ok-spread.spread c.rows.invariant.are at is);
    }
