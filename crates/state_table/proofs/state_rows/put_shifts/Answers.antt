use Rattle.std.proofs.Common.{ℕ, ◌<◌, ◌++◌, ◌∷◌, [], length, refl, sym, ap, ap₂, ◌∙◌, subst, arith}
use Rattle.std.proofs.lemmas.List.{get_or_default, map_push}
use Rattle.lr_theory.specs.Automaton.{Action}
use Rattle.state_table.specs.declared.stidx.StIdx.{StIdx}
use Rattle.state_table.specs.declared.cells.Action.{Action as TableAction}
use Rattle.state_table.specs.declared.cells.Action.TheVariants as actions
use Rattle.state_table.specs.CellRows.{StandsAt}
use Rattle.state_table.specs.CellViews.{action_of, cells_of, targets_of}
use Rattle.state_table.proofs.Cursors.{target_at, targets_length}
use Rattle.state_table.proofs.LoneRows.{before_next, past_all, shift_put}
use Rattle.state_table.proofs.state_rows.put_shifts.Goals as goal

pub returns-then-at-end : goal.returns-then-at-end
returns-then-at-end g c = λ cells n le only is.
    let number = g.S.IndexStorage.number in
    let shifts = targets_of number c.args.shifts.now in
    let x = c.index-shifts-i.result in
    let read = ap (λ (u : ℕ × StIdx g.row.S.Denot). u.0) c.index-shifts-i.is in
    let lt = c.edges-test.true in
    let l = targets_length number c.args.shifts.now in
    let y : ℕ × ℕ = (x.0, number x.1.0) in
    let tlt : c.edges.i < length shifts = omega (arith, l, lt) in
    let at = target_at number c.args.shifts.now c.edges.i x lt c.index-shifts-i.is in
    let row = cells_of number c.edges.row.items in
    let far = c.if-at-end.true in
    subst (λ k. StandsAt cells shifts c.args.end k row) (sym c.edges.invariant.at)
    (before_next cells shifts c.requires n c.args.end c.edges.i only row (c.edges.invariant.row cells n le only is) y tlt at (omega (arith, far, read)))

pub edges-preserved : goal.edges-preserved
edges-preserved g c =
    let number = g.S.IndexStorage.number in
    let shifts = targets_of number c.args.shifts.now in
    let x = c.index-shifts-i.result in
    let read = ap (λ (u : ℕ × StIdx g.row.S.Denot). u.0) c.index-shifts-i.is in
    let lt = c.edges-test.true in
    let l = targets_length number c.args.shifts.now in
    let y : ℕ × ℕ = (x.0, number x.1.0) in
    let tlt : c.edges.i < length shifts = omega (arith, l, lt) in
    let at = target_at number c.args.shifts.now c.edges.i x lt c.index-shifts-i.is in
    let row = cells_of number c.edges.row.items in
    let near = c.if-at-end.false in
    let f : ℕ × TableAction g.row.S.Denot → ℕ × Action = λ e. (e.0, action_of number e.1) in
    let same = get_or_default c.args.shifts.now c.edges.i c.index-shifts-i-in-edges.result x lt ∙ sym c.index-shifts-i.is in
    let pushed = c.in_ok-push.ensures.items ∙ ap₂ (λ (k : ℕ) (s : StIdx g.row.S.Denot). c.edges.row.items ++ (k, actions.Shift s) ∷ []) (sym read) (ap (λ (u : ℕ × StIdx g.row.S.Denot). u.1) same) in
    record {
      at = refl;
      row = λ cells n le only is. shift_put cells shifts c.requires n c.args.end c.edges.i only row (c.edges.invariant.row cells n le only is) y tlt at (omega (arith, near, read)) (cells_of number c.push.new.self.items)
          (ap (λ k. cells_of number k) pushed ∙ map_push f c.edges.row.items (x.0, actions.Shift x.1));
    }

pub returns : goal.returns
returns g c = λ cells n le only is.
    let number = g.S.IndexStorage.number in
    let shifts = targets_of number c.args.shifts.now in
    let l = targets_length number c.args.shifts.now in
    let row = cells_of number c.edges.row.items in
    let past = c.edges-test.false in
    subst (λ k. StandsAt cells shifts c.args.end k row) (sym c.edges.invariant.at)
    (past_all cells shifts c.requires n c.args.end c.edges.i only row (c.edges.invariant.row cells n le only is) (omega (arith, l, past)))
