use Rattle.std.proofs.Common.{◌<◌, sym, ap, ◌∙◌, subst, arith, refl}
use Rattle.state_table.specs.SpreadRows.{AreSpread, TellsAt}
use Rattle.state_table.specs.TableValues.{TableValue, action_at}
use Rattle.state_table.specs.TableViews.{sparse_of}
use Rattle.state_table.proofs.FullRows.{cell_found}
use Rattle.state_table.proofs.SpreadSteps.{told_within, told_read}
use Rattle.state_table.proofs.statetable.StateTable.action.Goals as goal

pub returns-in-Some : goal.returns-in-Some
returns-in-Some g c =
    let number = g.S.IndexStorage.number in
    let i = c.self.inside in
    let rows = i.actions.items in
    let s = c.to_usize-state.result in
    let t = c.to_usize.result in
    let o = c.in-Some.cell in
    let T = sparse_of number i.states i.tokens i.rules i.prods i.start rows i.gotos.items i.conflicts in
    let w = ap (λ (v : TableValue). v.tokens) c.self.view_is in
    let q = c.requires.token in
    let e = c.to_usize.ensures.value in
    let lt : t < number i.tokens = omega (arith, w, q, e) in
    let told : TellsAt rows s t o = c.in-Some.ensures rows (subst (λ l. AreSpread rows l) (sym c.as_slice.ensures.value) c.self.invariant.1) in
    c.cell_or_error.ensures
    ∙ (cell_found number T rows s t told.0 o refl (told_within rows s t o told) lt (told_read rows s t o told) told.2
    ∙ (ap (λ (v : TableValue). action_at v s t) c.self.view_is
    ∙ (ap (λ k. action_at c.args.self.now k t) c.to_usize-state.ensures.value
    ∙ ap (λ k. action_at c.args.self.now (number c.args.stidx.0) k) e)))
