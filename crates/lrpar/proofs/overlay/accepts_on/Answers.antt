use Rattle.std.proofs.Common.{◌≡◌, ◌≢◌, ℕ, Some, refl, sym, ap, ◌∙◌, subst}
use Rattle.lr_theory.specs.Automaton.{accept}
use Rattle.state_table.specs.CellViews.{action_of, state_of}
use Rattle.state_table.specs.declared.cells.Action.{Action as TableAction}
use Rattle.state_table.specs.declared.cells.Action.TheVariants as actions
use Rattle.state_table.specs.Tables.{automaton_of}
use Rattle.lrpar.specs.Replay.{overlaid, first_of, action_on, Rests}
use Rattle.lrpar.proofs.Overlays.{entry_in, top_is}
use Rattle.lrpar.proofs.overlay.accepts_on.Goals as goal

is_accept : {S : Type 0} (number : S → ℕ) (k : TableAction S) → action_of number k ≡ accept → k ≡ actions.Accept
is_accept number (actions.Shift q) e = cc
is_accept number (actions.Reduce p) e = cc
is_accept number actions.Accept e = refl
is_accept number actions.Error e = cc

pub action-requires-clause-state : goal.action-requires-clause-state
action-requires-clause-state g c =
    let number = g.S.IndexStorage.number in
    entry_in c.args.machine.now.stable.now 0 (overlaid number c.args.base.now c.reduce_all.new.overlay) (number c.in-Some.top.0) c.in_ok-reduce_all.ensures.over.are_states (sym c.under.ensures ∙ ap (state_of number) c.in-Some.is)

pub returns-in-Accept : goal.returns-in-Accept
returns-in-Accept g c = λ x.
    let number = g.S.IndexStorage.number in
    let a = automaton_of x c.args.machine.now.stable.now in
    let t = number c.eof_token_idx-eof.result.0 in
    let old = overlaid number c.args.base.now c.args.overlay.now in
    let ss = overlaid number c.args.base.now c.reduce_all.new.overlay in
    let top : first_of ss ≡ Some (number c.in-Some.top.0) = sym c.under.ensures ∙ ap (state_of number) c.in-Some.is in
    let cell : action_on a t ss ≡ accept = top_is c.args.machine.now.grm.now.grammar a t ss (number c.in-Some.top.0) top ∙ sym c.action.ensures ∙ ap (action_of number) c.in-Accept.is in
    (ss, subst (λ u. Rests c.args.machine.now.grm.now.grammar a u old ss) c.eof_token_idx-eof.ensures.value (c.in_ok-reduce_all.ensures.rests x), subst (λ u. action_on a u ss ≡ accept) c.eof_token_idx-eof.ensures.value cell)

pub returns-in_default-action : goal.returns-in_default-action
returns-in_default-action g c = λ x.
    let number = g.S.IndexStorage.number in
    let a = automaton_of x c.args.machine.now.stable.now in
    let t = number c.eof_token_idx-eof.result.0 in
    let old = overlaid number c.args.base.now c.args.overlay.now in
    let ss = overlaid number c.args.base.now c.reduce_all.new.overlay in
    let top : first_of ss ≡ Some (number c.in-Some.top.0) = sym c.under.ensures ∙ ap (state_of number) c.in-Some.is in
    let found : action_on a t ss ≡ action_of number c.action.result = top_is c.args.machine.now.grm.now.grammar a t ss (number c.in-Some.top.0) top ∙ sym c.action.ensures in
    let other : action_on a t ss ≢ accept = λ e. c.in_default-action.not-Accept (is_accept number c.action.result (sym found ∙ e)) in
    (ss, subst (λ u. Rests c.args.machine.now.grm.now.grammar a u old ss) c.eof_token_idx-eof.ensures.value (c.in_ok-reduce_all.ensures.rests x), subst (λ u. action_on a u ss ≢ accept) c.eof_token_idx-eof.ensures.value other)
