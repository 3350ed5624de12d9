use Rattle.std.proofs.Common.{◌≡◌, ◌-◌, suc, ℕ, List, ◌∷◌, length, drop, take, reverse, Some, sym, subst, arith}
use Rattle.std.proofs.lemmas.List.{length-map}
use Rattle.cfg_theory.specs.Grammar.{body_of}
use Rattle.lr_theory.specs.Chains.{goto_from, reduction}
use Rattle.state_table.specs.Tables.{automaton_of}
use Rattle.lrpar.specs.Reducing.{states_of, stack_of}
use Rattle.lrpar.proofs.Reduced.{number_at, state_in, reverse_last}
use Rattle.lrpar.proofs.StacksAhead.{by_production}
use Rattle.lrpar.proofs.tokenless_chains.take_stack.Goals as goal

pub reducers_at-list-requires-clause-state : goal.reducers_at-list-requires-clause-state
reducers_at-list-requires-clause-state g c = state_in g.S.IndexStorage.number c.args.chains.now.stable.now c.args.stack.now (length c.args.stack.now - 1) c.index-stack-stack.result c.requires.states.states (omega (arith, c.requires.states.some)) c.index-stack-stack.is

pub returns-clause-put : goal.returns-clause-put
returns-clause-put g c = λ x t ss h.
    let number = g.S.IndexStorage.number in
    let G = c.args.chains.now.grm.now.grammar in
    let v = c.args.chains.now.stable.now in
    let stack = c.args.stack.now in
    let top = number c.index-stack-stack.result.0 in
    let m = length stack - 1 in
    let same : length (states_of number stack) ≡ length stack = length-map stack (λ q. number q.0) in
    let len : suc m ≡ length (states_of number stack) = omega (arith, same, c.requires.states.some) in
    let rest = reverse (take m (states_of number stack)) in
    let whole : stack_of number stack ≡ top ∷ rest = reverse_last (states_of number stack) m top len (number_at number stack m c.index-stack-stack.result c.index-stack-stack.is) in
    let r = by_production G (automaton_of x v) t top rest ss (subst (λ (l : List ℕ). reduction G (automaton_of x v) t l ≡ Some ss) whole h) in
    c.in_ok-follow.ensures.put x r.0 ss (c.reducers_at-list.ensures.all t r.0 r.1) (subst (λ (l : List ℕ). goto_from G (automaton_of x v) r.0 (drop (length (body_of G r.0)) l) ≡ Some ss) (sym whole) r.2)
