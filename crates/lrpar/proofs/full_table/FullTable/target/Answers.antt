use Rattle.std.proofs.Common.{◌≡◌, ◌<◌, length, Some, sym, ap, ◌∙◌, arith}
use Rattle.std.specs.Prelude.{slice_get}
use Rattle.state_table.specs.TableValues.{TableValue, goto_at}
use Rattle.lrpar.specs.FullTables.{AreTargets}
use Rattle.lrpar.proofs.FullSteps.{row_within, row_told}
use Rattle.lrpar.proofs.full_table.FullTable.target.Goals.{After-row_at-row}
use Rattle.lrpar.proofs.full_table.FullTable.target.Goals as goal

pub row_at-row-requires : goal.row_at-row-requires
row_at-row-requires g c =
    let number = g.S.IndexStorage.number in
    let i = c.self.inside in
    let seen = ap (λ (v : TableValue). v.states) c.self.view_is in
    let s = c.requires.state in
    let lt : number c.args.stidx.0 < i.stable.states = omega (arith, seen, s) in
    let w = row_within (AreTargets number i.stable) i.stable.states i.targets.items (number c.args.stidx.0) c.self.invariant.1 lt in
    let n = ap (λ l. length l) c.as_slice.ensures.value in
    let e = c.to_usize.ensures.value in
    omega (arith, w, n, e)

-- the row that was taken
targets : (g : _) (c : After-row_at-row g) → AreTargets g.S.IndexStorage.number c.self.inside.stable (g.S.IndexStorage.number c.args.stidx.0) c.row_at-row.result.now.items
targets g c =
    let number = g.S.IndexStorage.number in
    let i = c.self.inside in
    let seen = ap (λ (v : TableValue). v.states) c.self.view_is in
    let s = c.requires.state in
    let lt : number c.args.stidx.0 < i.stable.states = omega (arith, seen, s) in
    let at : slice_get i.targets.items (number c.args.stidx.0) ≡ Some c.row_at-row.result.now = ap (slice_get i.targets.items) (sym c.to_usize.ensures.value) ∙ (ap (λ l. slice_get l c.to_usize.result) (sym c.as_slice.ensures.value) ∙ c.row_at-row.ensures) in
    row_told (AreTargets number i.stable) i.stable.states i.targets.items (number c.args.stidx.0) c.row_at-row.result.now c.self.invariant.1 lt at

pub returns-in-Some : goal.returns-in-Some
returns-in-Some g c =
    let number = g.S.IndexStorage.number in
    let i = c.self.inside in
    let there = ap (λ (v : TableValue). goto_at v (number c.args.stidx.0) (number c.args.ridx.0)) c.self.view_is ∙ c.requires.there.1 in
    let row = c.row_at-row.result.now.items in
    let at : slice_get row (number c.args.ridx.0) ≡ Some c.in-Some.target = ap (slice_get row) (sym c.to_usize-2.ensures.value) ∙ (ap (λ l. slice_get l c.to_usize-2.result) (sym c.as_slice-2.ensures.value) ∙ (sym c.place_at.ensures ∙ c.in-Some.is)) in
    c.requires.there.1
    ∙ ap (λ k. Some k) (sym ((targets g (goal.at.returns-in-Some g c).After-row_at-row).there (number c.args.ridx.0) c.requires.there.0 c.in-Some.target there at))
