use Rattle.std.proofs.Common.{◌<◌, sym, ap, ◌∙◌, subst, arith, refl}
use Rattle.state_table.specs.SpreadRows.{AreSpread, TellsAt}
use Rattle.state_table.specs.TableValues.{TableValue, goto_at}
use Rattle.state_table.specs.TableViews.{sparse_of}
use Rattle.state_table.proofs.FullRows.{goto_found}
use Rattle.state_table.proofs.SpreadSteps.{told_within, told_read}
use Rattle.state_table.proofs.statetable.StateTable.goto.Goals as goal

pub returns-in-Some : goal.returns-in-Some
returns-in-Some g c =
    let number = g.S.IndexStorage.number in
    let i = c.self.inside in
    let rows = i.gotos.items in
    let s = c.to_usize-state.result in
    let A = c.to_usize.result in
    let o = c.in-Some.target in
    let T = sparse_of number i.states i.tokens i.rules i.prods i.start i.actions.items rows i.conflicts in
    let w = ap (λ (v : TableValue). v.rules) c.self.view_is in
    let q = c.requires.rule in
    let e = c.to_usize.ensures.value in
    let lt : A < number i.rules = omega (arith, w, q, e) in
    let told : TellsAt rows s A o = c.in-Some.ensures rows (subst (λ l. AreSpread rows l) (sym c.as_slice.ensures.value) c.self.invariant.2) in
    goto_found number T rows s A told.0 o refl (told_within rows s A o told) lt (told_read rows s A o told) told.2
    ∙ (ap (λ (v : TableValue). goto_at v s A) c.self.view_is
    ∙ (ap (λ k. goto_at c.args.self.now k A) c.to_usize-state.ensures.value
    ∙ ap (λ k. goto_at c.args.self.now (number c.args.stidx.0) k) e))
