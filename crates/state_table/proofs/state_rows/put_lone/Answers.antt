use Rattle.std.proofs.Common.{◌≡◌, ℕ, ◌+◌, true, ap, ◌∙◌, arith}
use Rattle.std.specs.declared.ops.Bound.TheVariants.{Unbounded}
use Rattle.std.proofs.lemmas.List.{map_push}
use Rattle.lr_theory.specs.Automaton.{Action}
use Rattle.vob.specs.Walk.{walk}
use Rattle.state_table.specs.declared.cells.Action.{Action as TableAction}
use Rattle.state_table.specs.declared.cells.Action.TheVariants as actions
use Rattle.state_table.specs.CellRows.{filled_row, lone_cells}
use Rattle.state_table.specs.CellViews.{action_of, cells_of, targets_of}
use Rattle.state_table.proofs.Cursors.{at_start}
use Rattle.state_table.proofs.LoneRows.{lone_put, unset_shifts}
use Rattle.state_table.proofs.Marks.{IsNextMark, all_marked, next_mark, no_mark}
use Rattle.state_table.proofs.state_rows.put_lone.Goals as goal

pub tokens-init : goal.tokens-init
tokens-init g c =
    let number = g.S.IndexStorage.number in
    let bits = c.args.tokens.now.bits in
    let e : c.into_iter-number-iterator.result ≡ walk true bits Unbounded Unbounded = cc in (
      tt,
      tt,
      (
        0,
        record {
          within = omega arith;
          left = all_marked bits c.into_iter-number-iterator.result e;
          stands = record { filled = ap (λ l. cells_of number l) c.requires.none; cursor = at_start (targets_of number c.args.shifts.now) };
        },
      ),
    )

pub overflow_cast-at : goal.overflow_cast-at
overflow_cast-at g c =
    let number = g.S.IndexStorage.number in
    let bits = c.args.tokens.now.bits in
    let n = c.tokens.invariant.2.0 in
    let v = c.tokens.invariant.2.1 in
    let m : IsNextMark bits n c.in-Some.number c.next.new.self = next_mark bits n c.in-Some.number c.tokens.number-iterator c.next.new.self v.within v.left c.in-Some.ensures.steps in
    let below = m.below in
    let width = c.requires.width in
    let fits = g.met.S.IndexStorage.max_fits in
    omega (arith, below, width, fits)

pub tokens-preserved : goal.tokens-preserved
tokens-preserved g c =
    let number = g.S.IndexStorage.number in
    let shifts = targets_of number c.args.shifts.now in
    let bits = c.args.tokens.now.bits in
    let p = number c.args.pidx.0 in
    let n = c.tokens.invariant.2.0 in
    let v = c.tokens.invariant.2.1 in
    let t = c.in-Some.number in
    let m : IsNextMark bits n t c.next.new.self = next_mark bits n t c.tokens.number-iterator c.next.new.self v.within v.left c.in-Some.ensures.steps in
    let below = m.below in
    let f : ℕ × TableAction g.row.S.Denot → ℕ × Action = λ e. (e.0, action_of number e.1) in
    let is = c.in_ok-put_shifts.ensures (lone_cells p bits shifts) n m.low (unset_shifts p bits shifts n t m.none) v.stands in (
      tt,
      tt,
      (
        t + 1,
        record {
          within = omega (arith, below);
          left = m.left;
          stands = lone_put p bits shifts t c.put_shifts.new.next (cells_of number c.put_shifts.new.row.items) (cells_of number c.push.new.self.items) c.requires.rises c.requires.apart m.here is
              (ap (λ l. cells_of number l) c.in_ok-push.ensures.items ∙ map_push f c.put_shifts.new.row.items (t, actions.Reduce c.args.pidx));
        },
      ),
    )

pub returns : goal.returns
returns g c =
    let number = g.S.IndexStorage.number in
    let shifts = targets_of number c.args.shifts.now in
    let bits = c.args.tokens.now.bits in
    let p = number c.args.pidx.0 in
    let n = c.tokens.invariant.2.0 in
    let v = c.tokens.invariant.2.1 in
    let within = v.within in
    let all = c.len.ensures in
    (c.in_ok-put_shifts-2.ensures (lone_cells p bits shifts) n (omega (arith, within, all)) (unset_shifts p bits shifts n c.len.result (λ t a b. no_mark bits n c.tokens.number-iterator v.within v.left c.in-None.ensures.steps.0 t a (omega (arith, b, all)))) v.stands).filled
    ∙ ap (λ k. filled_row (lone_cells p bits shifts) k) all
