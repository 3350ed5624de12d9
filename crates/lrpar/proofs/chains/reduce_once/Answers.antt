use Rattle.std.proofs.Common.{◌≡◌, ◌-◌, suc, length, get_or, take, reverse, Some, refl, sym, ap, ◌∙◌, arith}
use Rattle.std.proofs.lemmas.List.{length-map, reverse-append}
use Rattle.cfg_theory.specs.Grammar.{head_of, body_of, IsOf}
use Rattle.lr_theory.specs.Automaton.{reduce}
use Rattle.lr_theory.specs.Chains.{push_goto, reduction}
use Rattle.state_table.specs.Graphs.{GraphValue}
use Rattle.state_table.specs.TableValues.{action_at, goto_at}
use Rattle.state_table.specs.CellViews.{state_of, action_of}
use Rattle.state_table.specs.Tables.{automaton_of}
use Rattle.lrpar.specs.Reducing.{states_of, stack_of}
use Rattle.lrpar.proofs.Reduced.{number_at, state_in, are_pushed, states_pushed, reduction_is}
use Rattle.lrpar.proofs.chains.reduce_once.Goals as goal
use Rattle.lrpar.proofs.chains.reduce_once.Goals.{After-goto}

pub action-requires-clause-state : goal.action-requires-clause-state
action-requires-clause-state g c = state_in g.S.IndexStorage.number c.args.chains.now.stable.now c.args.stack.now.items (c.len.result - 1) c.index-top.result.now c.requires.states (omega arith) c.index-top.ensures

pub goto-requires-clause-state : goal.goto-requires-clause-state
goto-requires-clause-state g c = state_in g.S.IndexStorage.number c.args.chains.now.stable.now c.args.stack.now.items (c.len-3.result - c.to_usize-count.result - 1) c.index-below.result.now c.requires.states (omega arith) c.index-below.ensures

pub goto-requires-clause-rule : goal.goto-requires-clause-rule
goto-requires-clause-rule g c =
    let number = g.S.IndexStorage.number in
    let table = c.args.chains.now.table in
    let p = number c.in-Reduce.pidx.0 in
    let cell : action_at c.args.chains.now.stable.now (number c.index-top.result.now.0) (number c.args.tidx.0) ≡ reduce p = sym c.action.ensures ∙ ap (action_of number) c.in-Reduce.is in
    let within = table.is_table.reduces _ _ p cell in
    let is_of : IsOf c.args.chains.now.grm.now.grammar p (number c.prod_to_rule.result.0) = record { in_range = omega (arith, within, table.productions); head = sym c.prod_to_rule.ensures } in
    let heads = table.well_formed.heads p (number c.prod_to_rule.result.0) is_of in
    omega (arith, heads, table.rules)

-- what the reduction comes to
stepped : (g : _) (c : After-goto g) (x : GraphValue) → reduction c.args.chains.now.grm.now.grammar (automaton_of x c.args.chains.now.stable.now) (g.S.IndexStorage.number c.args.tidx.0) (stack_of g.S.IndexStorage.number c.args.stack.now.items) ≡ push_goto (state_of g.S.IndexStorage.number c.goto.result) (reverse (take (c.len-3.result - c.to_usize-count.result) (states_of g.S.IndexStorage.number c.args.stack.now.items)))
stepped g c x =
    let number = g.S.IndexStorage.number in
    let G = c.args.chains.now.grm.now.grammar in
    let v = c.args.chains.now.stable.now in
    let stack = c.args.stack.now in
    let top = number c.index-top.result.now.0 in
    let below = number c.index-below.result.now.0 in
    let p = number c.in-Reduce.pidx.0 in
    let n = c.to_usize-count.result in
    let cell : action_at v top (number c.args.tidx.0) ≡ reduce p = sym c.action.ensures ∙ ap (action_of number) c.in-Reduce.is in
    let ss = states_of number stack.items in
    let same : length ss ≡ length stack.items = length-map stack.items (λ q. number q.0) in
    let len : suc (c.len.result - 1) ≡ length ss = omega (arith, same) in
    let left : length ss - n ≡ c.len-3.result - n = omega (arith, same) in
    let count : n ≡ length (body_of G p) = c.to_usize-count.ensures.value ∙ c.prod_len.ensures in
    let below_is : below ≡ get_or ss (length ss - n - 1) below = rw left (number_at number stack.items (c.len-3.result - n - 1) c.index-below.result.now c.index-below.ensures) in
    let to : push_goto (goto_at v below (head_of G p)) (reverse (take (length ss - n) ss)) ≡ push_goto (state_of number c.goto.result) (reverse (take (c.len-3.result - n) ss)) =
    ap (λ k. push_goto (goto_at v below (head_of G p)) (reverse (take k ss))) left ∙ ap (λ o. push_goto o (reverse (take (c.len-3.result - n) ss))) (sym (c.goto.ensures ∙ ap (goto_at v below) c.prod_to_rule.ensures)) in
    reduction_is G (automaton_of x v) (number c.args.tidx.0) p n (c.len.result - 1) top below ss len (number_at number stack.items (c.len.result - 1) c.index-top.result.now c.index-top.ensures) cell count (omega (arith, same)) below_is ∙ to

pub returns-in_default-goto-clause-ok : goal.returns-in_default-goto-clause-ok
returns-in_default-goto-clause-ok g c = λ x. stepped g (goal.at.returns-in_default-goto-clause-ok g c).After-goto x ∙ rw c.in_default-goto.is refl

pub returns-clause-ok : goal.returns-clause-ok
returns-clause-ok g c = λ x.
    let number = g.S.IndexStorage.number in
    stepped g (goal.at.returns-clause-ok g c).After-goto x ∙ rw (c.in-Some.is, c.in_ok-push.ensures.items, c.truncate.ensures.items, states_pushed number, reverse-append) refl

pub returns-clause-states : goal.returns-clause-states
returns-clause-states g c =
    let number = g.S.IndexStorage.number in
    let v = c.args.chains.now.stable.now in
    let to : goto_at v (number c.index-below.result.now.0) (number c.prod_to_rule.result.0) ≡ Some (number c.in-Some.target.0) = sym c.goto.ensures ∙ ap (state_of number) c.in-Some.is in
    rw (c.in_ok-push.ensures.items, c.truncate.ensures.items) (are_pushed number v c.args.stack.now.items (c.len-3.result - c.to_usize-count.result) c.in-Some.target c.requires.states (c.args.chains.now.table.is_table.targets _ _ _ to))
