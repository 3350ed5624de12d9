use Rattle.std.proofs.Common.{◌≡◌, Some, sym, ap, ◌∙◌, arith, length}
use Rattle.cfg_theory.specs.Grammar.{IsOf}
use Rattle.lr_theory.specs.Automaton.{reduce}
use Rattle.state_table.specs.TableValues.{action_at, goto_at}
use Rattle.state_table.specs.CellViews.{action_of, state_of}
use Rattle.lrpar.specs.Replay.{overlaid}
use Rattle.lrpar.proofs.Overlays.{entry_in, are_replaced}
use Rattle.lrpar.proofs.overlay.reduce_on.Goals as goal

pub action-requires-clause-state : goal.action-requires-clause-state
action-requires-clause-state g c =
    let number = g.S.IndexStorage.number in
    entry_in c.args.machine.now.stable.now 0 (overlaid number c.args.base.now c.args.overlay.now) (number c.in-Some.top.0) c.requires.over.are_states (sym c.under.ensures ∙ ap (state_of number) c.in-Some.is)

pub goto-requires-clause-state : goal.goto-requires-clause-state
goto-requires-clause-state g c =
    let number = g.S.IndexStorage.number in
    entry_in c.args.machine.now.stable.now c.to_usize-count.result (overlaid number c.args.base.now c.args.overlay.now) (number c.in-Some-under.below.0) c.requires.over.are_states (sym c.under-2.ensures ∙ ap (state_of number) c.in-Some-under.is)

pub goto-requires-clause-rule : goal.goto-requires-clause-rule
goto-requires-clause-rule g c =
    let number = g.S.IndexStorage.number in
    let table = c.args.machine.now.table in
    let p = number c.in-Reduce.pidx.0 in
    let cell : action_at c.args.machine.now.stable.now (number c.in-Some.top.0) (number c.args.tidx.0) ≡ reduce p = sym c.action.ensures ∙ ap (action_of number) c.in-Reduce.is in
    let within = table.is_table.reduces _ _ p cell in
    let is_of : IsOf c.args.machine.now.grm.now.grammar p (number c.prod_to_rule.result.0) = record { in_range = omega (arith, within, table.productions); head = sym c.prod_to_rule.ensures } in
    let heads = table.well_formed.heads p (number c.prod_to_rule.result.0) is_of in
    omega (arith, heads, table.rules)

pub returns-clause-over : goal.returns-clause-over
returns-clause-over g c =
    let number = g.S.IndexStorage.number in
    let v = c.args.machine.now.stable.now in
    let to : goto_at v (number c.in-Some-under.below.0) (number c.prod_to_rule.result.0) ≡ Some (number c.in-Some-goto.target.0) = sym c.goto.ensures ∙ ap (state_of number) c.in-Some-goto.is in
    let count = ap length c.in_ok-replace.ensures.stack in
    record {
      within = c.in_ok-replace.ensures.within;
      are_states = rw c.in_ok-replace.ensures.stack (are_replaced v c.to_usize-count.result (overlaid number c.args.base.now c.args.overlay.now) (number c.in-Some-goto.target.0) c.requires.over.are_states (c.args.machine.now.table.is_table.targets _ _ _ to));
      some = omega (arith, count);
    }
