use Rattle.std.proofs.Common.{◌≡◌, ◌-◌, length, get_or, take, reverse, drop, Some, refl, sym, ap, ◌∙◌, arith}
use Rattle.std.proofs.lemmas.List.{length-map, reverse-append}
use Rattle.cfg_theory.specs.Grammar.{head_of, body_of, IsOf}
use Rattle.lr_theory.specs.Chains.{push_goto, goto_from}
use Rattle.state_table.specs.CellViews.{state_of}
use Rattle.state_table.specs.Graphs.{GraphValue}
use Rattle.state_table.specs.TableValues.{goto_at}
use Rattle.state_table.specs.Tables.{automaton_of}
use Rattle.lrpar.specs.Reducing.{states_of, stack_of}
use Rattle.lrpar.proofs.Reduced.{number_at, state_in, are_pushed, states_pushed, length_pushed, goto_is}
use Rattle.lrpar.proofs.tokenless_chains.stack_after.Goals as goal
use Rattle.lrpar.proofs.tokenless_chains.stack_after.Goals.{After-goto}

pub goto-requires-clause-state : goal.goto-requires-clause-state
goto-requires-clause-state g c = state_in g.S.IndexStorage.number c.args.chains.now.stable.now c.args.stack.now (length c.args.stack.now - c.to_usize-count.result - 1) c.index-stack-left.result c.requires.states (omega arith) c.index-stack-left.is

pub goto-requires-clause-rule : goal.goto-requires-clause-rule
goto-requires-clause-rule g c =
    let number = g.S.IndexStorage.number in
    let p = number c.args.pidx.0 in
    let is_of : IsOf c.args.chains.now.grm.now.grammar p (number c.prod_to_rule.result.0) = record { in_range = c.requires.production; head = sym c.prod_to_rule.ensures } in
    let heads = c.args.chains.now.table.well_formed.heads p (number c.prod_to_rule.result.0) is_of in
    omega (arith, heads, c.args.chains.now.table.rules)

-- what the reduction comes to
stepped : (g : _) (c : After-goto g) (x : GraphValue) → goto_from c.args.chains.now.grm.now.grammar (automaton_of x c.args.chains.now.stable.now) (g.S.IndexStorage.number c.args.pidx.0) (drop (length (body_of c.args.chains.now.grm.now.grammar (g.S.IndexStorage.number c.args.pidx.0))) (stack_of g.S.IndexStorage.number c.args.stack.now)) ≡ push_goto (state_of g.S.IndexStorage.number c.goto.result) (reverse (take (length c.args.stack.now - c.to_usize-count.result) (states_of g.S.IndexStorage.number c.args.stack.now)))
stepped g c x =
    let number = g.S.IndexStorage.number in
    let G = c.args.chains.now.grm.now.grammar in
    let v = c.args.chains.now.stable.now in
    let stack = c.args.stack.now in
    let below = number c.index-stack-left.result.0 in
    let p = number c.args.pidx.0 in
    let n = c.to_usize-count.result in
    let ss = states_of number stack in
    let same : length ss ≡ length stack = length-map stack (λ q. number q.0) in
    let left : length ss - n ≡ length stack - n = omega (arith, same) in
    let count : n ≡ length (body_of G p) = c.to_usize-count.ensures.value ∙ c.prod_len.ensures in
    let below_is : below ≡ get_or ss (length ss - n - 1) below = rw left (number_at number stack (length stack - n - 1) c.index-stack-left.result c.index-stack-left.is) in
    let to : push_goto (goto_at v below (head_of G p)) (reverse (take (length ss - n) ss)) ≡ push_goto (state_of number c.goto.result) (reverse (take (length stack - n) ss)) =
    ap (λ k. push_goto (goto_at v below (head_of G p)) (reverse (take k ss))) left ∙ ap (λ o. push_goto o (reverse (take (length stack - n) ss))) (sym (c.goto.ensures ∙ ap (goto_at v below) c.prod_to_rule.ensures)) in
    ap (λ k. goto_from G (automaton_of x v) p (drop k (stack_of number stack))) (sym count) ∙ (goto_is G (automaton_of x v) p n below ss (omega (arith, same)) below_is ∙ to)

pub returns-in_default-clause-value : goal.returns-in_default-clause-value
returns-in_default-clause-value g c = λ x. sym (stepped g (goal.at.returns-in_default-clause-value g c).After-goto x ∙ rw c.in_default.is refl)

pub returns-clause-value : goal.returns-clause-value
returns-clause-value g c = λ x.
    let number = g.S.IndexStorage.number in
    sym (stepped g (goal.at.returns-clause-value g c).After-goto x ∙ rw (c.in-Some.is, c.in_ok-push.ensures.items, c.in_ok-extend_from_slice.ensures.items, c.empty_stack-next.ensures, states_pushed number, reverse-append) refl)

pub returns-clause-states : goal.returns-clause-states
returns-clause-states g c =
    let number = g.S.IndexStorage.number in
    let v = c.args.chains.now.stable.now in
    let left = length c.args.stack.now - c.to_usize-count.result in
    let to : goto_at v (number c.index-stack-left.result.0) (number c.prod_to_rule.result.0) ≡ Some (number c.in-Some.target.0) = sym c.goto.ensures ∙ ap (state_of number) c.in-Some.is in
    let long = length_pushed c.args.stack.now left c.in-Some.target (omega arith) in
    rw (c.in_ok-push.ensures.items, c.in_ok-extend_from_slice.ensures.items, c.empty_stack-next.ensures) (record { states = are_pushed number v c.args.stack.now left c.in-Some.target c.requires.states (c.args.chains.now.table.is_table.targets _ _ _ to); some = omega (arith, long) })
