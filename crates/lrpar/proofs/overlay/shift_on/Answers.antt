use Rattle.std.proofs.Common.{◌≡◌, ◌≢◌, ℕ, Some, refl, sym, ap, ◌∙◌, length, arith}
use Rattle.lr_theory.specs.Automaton.{shift}
use Rattle.state_table.specs.TableValues.{action_at}
use Rattle.state_table.specs.CellViews.{action_of, state_of}
use Rattle.state_table.specs.Tables.{automaton_of}
use Rattle.state_table.specs.declared.cells.Action.{Action as TableAction}
use Rattle.state_table.specs.declared.cells.Action.TheVariants as actions
use Rattle.state_table.specs.declared.stidx.StIdx.{StIdx}
use Rattle.lrpar.specs.Replay.{overlaid, first_of, action_on}
use Rattle.lrpar.proofs.Overlays.{entry_in, are_replaced, top_is}
use Rattle.lrpar.proofs.overlay.shift_on.Goals as goal

not_shift : {S : Type 0} (number : S → ℕ) (k : TableAction S) → ((q : StIdx S) → k ≢ actions.Shift q) → (j : ℕ) → action_of number k ≢ shift j
not_shift number (actions.Shift q) other j e = other q refl
not_shift number (actions.Reduce p) other j e = cc
not_shift number actions.Accept other j e = cc
not_shift number actions.Error other j e = cc

pub action-requires-clause-state : goal.action-requires-clause-state
action-requires-clause-state g c =
    let number = g.S.IndexStorage.number in
    entry_in c.args.machine.now.stable.now 0 (overlaid number c.args.base.now c.reduce_all.new.overlay) (number c.in-Some.top.0) c.in_ok-reduce_all.ensures.over.are_states (sym c.under.ensures ∙ ap (state_of number) c.in-Some.is)

pub returns-clause-over : goal.returns-clause-over
returns-clause-over g c =
    let number = g.S.IndexStorage.number in
    let v = c.args.machine.now.stable.now in
    let cell : action_at v (number c.in-Some.top.0) (number c.args.tidx.0) ≡ shift (number c.in-Shift.target.0) = sym c.action.ensures ∙ ap (action_of number) c.in-Shift.is in
    let count = ap length c.in_ok-replace.ensures.stack in
    record {
      within = c.in_ok-replace.ensures.within;
      are_states = rw c.in_ok-replace.ensures.stack (are_replaced v 0 (overlaid number c.args.base.now c.reduce_all.new.overlay) (number c.in-Shift.target.0) c.in_ok-reduce_all.ensures.over.are_states (c.args.machine.now.table.is_table.shifts _ _ _ cell));
      some = omega (arith, count);
    }

pub returns-in_default-action : goal.returns-in_default-action
returns-in_default-action g c =
    let number = g.S.IndexStorage.number in
    let ss = overlaid number c.args.base.now c.reduce_all.new.overlay in
    record {
      shifts = λ x.
          let a = automaton_of x c.args.machine.now.stable.now in
          let t = number c.args.tidx.0 in
          let top : first_of ss ≡ Some (number c.in-Some.top.0) = sym c.under.ensures ∙ ap (state_of number) c.in-Some.is in
          let found : action_on a t ss ≡ action_of number c.action.result = top_is c.args.machine.now.grm.now.grammar a t ss (number c.in-Some.top.0) top ∙ sym c.action.ensures in
          record {
            reduced = ss;
            rests = c.in_ok-reduce_all.ensures.rests x;
            cell = λ q e. not_shift number c.action.result (λ r h. c.in_default-action.not-Shift r h) q (sym found ∙ e);
          };
      over = c.in_ok-reduce_all.ensures.over;
    }
