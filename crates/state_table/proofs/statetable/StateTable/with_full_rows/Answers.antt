use Rattle.std.proofs.Common.{ℕ, sym, subst, arith}
use Rattle.std.proofs.lemmas.List.{length-map}
use Rattle.std.specs.declared.alloc.Global.{Global}
use Rattle.std.specs.declared.vec.Vec.{Vec}
use Rattle.state_table.specs.declared.stidx.StIdx.{StIdx}
use Rattle.state_table.specs.declared.cells.Action.{Action as TableAction}
use Rattle.state_table.specs.CellViews.{action_of, cells_of, targets_of}
use Rattle.state_table.specs.SparseRows.{IsCellRow, IsTargetRow}
use Rattle.state_table.specs.SpreadRows.{AreSpread, CanSpread}
use Rattle.state_table.proofs.FullRows.{cells_at, targets_at}
use Rattle.state_table.proofs.SpreadSteps.{can_spread}
use Rattle.state_table.proofs.statetable.StateTable.with_full_rows.Goals as goal

pub spread_rows-requires : goal.spread_rows-requires
spread_rows-requires g c =
    let number = g.S.IndexStorage.number in
    let i = c.self.inside in
    let rows = i.actions.items in
    let m = c.self.invariant.0.actions in
    let n = length-map rows (λ (row : Vec (ℕ × TableAction g.row.S.Denot) Global). cells_of number row.items) in
    subst (λ l. CanSpread c.to_usize.result l) (sym c.as_slice.ensures.value)
    (subst (λ k. CanSpread k rows) (sym c.to_usize.ensures.value)
    (can_spread (action_of number) (number i.tokens) rows (λ s r lt at. (let is = subst (IsCellRow (number i.tokens)) (cells_at number rows s r lt at) (c.self.invariant.0.rows s (omega (arith, n, m, lt))) in (is.rises, is.below)))))

pub spread_rows-requires-2 : goal.spread_rows-requires-2
spread_rows-requires-2 g c =
    let number = g.S.IndexStorage.number in
    let i = c.self.inside in
    let rows = i.gotos.items in
    let m = c.self.invariant.0.gotos in
    let n = length-map rows (λ (row : Vec (ℕ × StIdx g.row.S.Denot) Global). targets_of number row.items) in
    subst (λ l. CanSpread c.to_usize-2.result l) (sym c.as_slice-2.ensures.value)
    (subst (λ k. CanSpread k rows) (sym c.to_usize-2.ensures.value)
    (can_spread (λ (q : StIdx g.row.S.Denot). number q.0) (number i.rules) rows (λ s r lt at. (let is = subst (IsTargetRow (number i.rules)) (targets_at number rows s r lt at) (c.self.invariant.0.targets s (omega (arith, n, m, lt))) in (is.rises, is.below)))))

pub invariant_of-self : goal.invariant_of-self
invariant_of-self g c =
    let i = c.self.inside in
    (c.self.invariant.0, subst (λ l. AreSpread l c.in_ok-full_actions.full_actions.items) c.as_slice.ensures.value c.in_ok-full_actions.ensures, subst (λ l. AreSpread l c.in_ok-full_gotos.full_gotos.items) c.as_slice-2.ensures.value c.in_ok-full_gotos.ensures)
